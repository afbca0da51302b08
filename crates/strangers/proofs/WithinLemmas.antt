-- The values of words are within their limits, so what a format means over them is within its cost.
use Rattle.std.proofs.Common.{◌≡◌, ◌∙◌, refl, ap, ℕ, ◌-◌, ◌^◌, ◌<◌, ◌≤◌, Bool, cond, suc, List, []}
use Rattle.std.proofs.Common.{◌∷◌, All, length, map, None, Some, arith, min}
use Rattle.std.proofs.lemmas.{List.length-map, List.reverse-append, List.Elements.All-head}
use Rattle.std.proofs.lemmas.{List.Elements.All-tail, List.Folds.find-append}
use mathlib.Core.Path.{fun_ext}
use Rattle.std.specs.Str.{bytes_eq, chars, encode_utf8_all}
use Rattle.std.specs.{Borrow.Bor, List.find, Option.option_or, Prelude.reverse}
use Rattle.interpolator.specs.Places.{At, outermost}
use Rattle.interpolator.specs.Meaning.Environments.{Environment, environment}
use Rattle.interpolator.specs.Meaning.Limits.{FoundWithin, IsWithin, ItemsWithin, SlotsWithin}
use Rattle.interpolator.specs.Meaning.Limits.{SlotWithin}
use Rattle.interpolator.specs.Slots.{Slots, empty_slots, listed_slots, slot_at, slots_listed}
use Rattle.interpolator.specs.Slots.{values_of, with_integer}
use Rattle.interpolator.specs.Meaning.{AskedNames.asked_names, Meanings.means, Work.text_work}
use Rattle.interpolator.specs.declared.{Formattable.Formattable, Limits.Limits, Trait.Trait}
use Rattle.interpolator.specs.declared.Trait.TheVariants.{Iter}
use Rattle.interpolator.specs.{Contexts.found_by_pairs, Template.NodeCosts.text_cost}
use Rattle.strangers.specs.Serving.{IsServed, IsWhole, Rejects, first_why, format_why, given_why}
use Rattle.strangers.specs.Serving.{bytes_for, meaning_over, shows, reported_cost, words_why}
use Rattle.strangers.specs.Values.{AreInRange, IsInRange, Row, characters_of, found_by_words}
use Rattle.strangers.specs.Values.{given_slots, longest_of, pair_named, word_named}
use Rattle.strangers.specs.declared.values.Datum.TheVariants.{Text, Number, Decimal as InDecimal}
use Rattle.strangers.specs.declared.values.Given.TheVariants.{One, Many}
use Rattle.strangers.specs.declared.{serving.Allowed.Allowed, serving.Refused.Refused}
use Rattle.strangers.specs.declared.{values.Datum.Datum, values.Given.Given, values.Word.Word}
use Rattle.strangers.proofs.{ServingLemmas.afforded, ServingLemmas.neither, ValueLemmas.let_through}

-- pairs give what the words give, under the same names
abbrev pub GiveWords : List Word → Row → Type 0
GiveWords words pairs = map pair_named pairs ≡ map word_named words

-- ---- what words give is within the limits

module _ (limits : Limits) where
  abbrev AreWithin : Slots Datum → Type 0
  AreWithin slots = SlotsWithin shows limits.text limits.items slots

  -- a value in a slot
  slot_within : (t : Trait) (value : Datum) → IsInRange value → characters_of value ≤ limits.text
      → SlotWithin shows limits.text limits.items t (Some value)
  slot_within t (Text text) range short = λ spec. short
  slot_within t (Number number) range short = λ spec. range
  slot_within t (InDecimal decimal) range short = λ spec. (range.0, range.1, omega (arith, short))

  -- a value in each slot
  value_within : (value : Datum) → IsInRange value → characters_of value ≤ limits.text
      → AreWithin (with_integer empty_slots value)
  value_within value range short = λ t. each t
    where
      each : (t : Trait) → SlotWithin shows limits.text limits.items t
          (slot_at t (values_of (with_integer empty_slots value)))
      each Iter = tt
      each t = slot_within t value range short

  -- nothing in any slot
  none_within : (t : Trait) → SlotWithin shows limits.text limits.items t
      (slot_at t (values_of (empty_slots {X = Datum})))
  none_within Iter = tt
  none_within _ = tt

  -- the items of a list, as many as there are values
  items_within : (values : List Datum) → All IsInRange values → longest_of values ≤ limits.text
      → ItemsWithin shows limits.text limits.items
      (listed_slots (map (with_integer empty_slots) values))
  items_within [] range short = tt
  items_within (value ∷ values) range short = (
    value_within value (All-head IsInRange value values range) (omega (arith, short)),
    items_within values (All-tail IsInRange value values range) (omega (arith, short)),
  )

  as_many : (values : List Datum)
      → length (slots_listed (listed_slots (map (with_integer empty_slots) values)))
      ≡ length values
  as_many [] = refl
  as_many (value ∷ values) = ap suc (as_many values)

  -- what a word gives
  slots_within : (given : Given) → AreInRange given → given_why limits given ≡ None
      → AreWithin (given_slots given)
  slots_within (One value) range good = value_within value range (let_through _ _ _ good)
  slots_within (Many values) range good =
      let (few, short) = neither _ _ good in (
        none_within,
        omega (arith, let_through _ (length values.items) limits.items few, as_many values.items),
        items_within values.items range (let_through _ _ _ short),
      )

  -- what is found by words
  found_within : (words : List Word) (name : List ℕ)
      → All (λ (word : Word). AreInRange word.given) words → words_why limits words ≡ None
      → FoundWithin shows limits.text limits.items (found_by_words words name)
  found_within [] name range good = tt
  found_within (word ∷ words) name range good =
      let (this, others) = neither _ _ good in
      let InRange = λ (w : Word). AreInRange w.given in
      let first = slots_within word.given (All-head InRange word words range) this in
      let rest = found_within words name (All-tail InRange word words range) others in
      grind (arith, first, rest)

  names_within : (words : List Word) (names : List (List ℕ))
      → All (λ (word : Word). AreInRange word.given) words → words_why limits words ≡ None
      → IsWithin shows limits.text limits.items (environment (found_by_words words)) names
  names_within words [] range good = tt
  names_within words (name ∷ names) range good =
      (found_within words name range good, names_within words names range good)

-- ---- what is found by words is found by pairs that give what they give

-- the last that passes a test is one of the rest, or else the first
last_or : {A : Type 0} (p : A → Bool) (x : A) (xs : List A)
    → find p (reverse (x ∷ xs)) ≡ option_or (find p (reverse xs)) (cond (p x) (Some x) None)
last_or p x xs = ap (find p) (reverse-append (x ∷ []) xs) ∙ find-append p (reverse xs) (x ∷ [])

found_same : (words : List Word) (pairs : Row) → GiveWords words pairs → (name : List ℕ)
    → found_by_pairs pairs name ≡ found_by_words words name
found_same [] [] given name = refl
found_same (word ∷ words) (pair ∷ pairs) given name =
    let rest = found_same words pairs (cc) name in
    let first : pair_named pair ≡ word_named word = cc in
    let same = λ (p : Bor (List ℕ) × Formattable Datum). bytes_eq (encode_utf8_all name) p.0.now in
    grind (arith, last_or same pair pairs, rest, first)
found_same _ _ given name = absurd (cc)

-- ---- what is served

-- what a text means is within its cost, if the values are within the limits
abbrev pub KeepsToCost : Limits → Type 0
KeepsToCost limits = (e : Environment Datum) (a : At)
    → IsWithin shows limits.text limits.items e (asked_names a)
    → (length (means shows e a).text ≤ (text_cost limits a).characters)
    × ((text_work shows e a).pieces ≤ (text_cost limits a).pieces)
    × ((text_work shows e a).held ≤ (text_cost limits a).buffered)

-- a count that is reported below the greatest `usize` is the count itself
as_reported : (n count : ℕ) → n ≤ count → min count (2 ^ 64 - 1) < 2 ^ 64 - 1
    → n ≤ min count (2 ^ 64 - 1)
as_reported n count h k = omega (arith, h, k)

module _ (allowed : Allowed) (format : List ℕ) (words : List Word) (pairs : Row)
    (given : GiveWords words pairs) where
  same : found_by_pairs pairs ≡ found_by_words words
  same = fun_ext (found_same words pairs given)

  -- a format that nothing rejects is served
  pub served_whole : KeepsToCost allowed.values → (text : List ℕ)
      → All (λ word. AreInRange word.given) words → words_why allowed.values words ≡ None
      → IsWhole format (found_by_pairs pairs) (chars text)
      × (format_why allowed format (found_by_pairs pairs) ≡ None)
      × (length text ≤ bytes_for (reported_cost allowed.values format).characters)
      → IsServed allowed format words text
  served_whole costs text range good done =
      let (whole, accepted, short) = rw same at done in
      let most = costs (environment (found_by_words words)) (outermost (chars format))
      (names_within allowed.values words _ range good) in
      let affords = afforded allowed.most _ (neither _ _ accepted).1 in
      let as_long : length (chars text) ≡ length (meaning_over format (found_by_words words)).text =
      rw (whole.whole) (length-map (meaning_over format (found_by_words words)).text _) in
      record {
        accepted = rw good accepted;
        written = whole;
        characters = rw as_long (as_reported _ _ most.0 affords.characters.1);
        bytes = short;
        pieces = as_reported _ _ most.1 affords.pieces.1;
        buffered = as_reported _ _ most.2 affords.buffered.1;
        afforded = affords;
      }

  -- and another is rejected
  pub rejected : (refused : Refused) → words_why allowed.values words ≡ None
      → Rejects (format_why allowed format (found_by_pairs pairs)) refused
      → Rejects (first_why allowed format words) refused
  rejected refused good h = rw good (rw same at h)
