-- Values of declared kinds resemble the examples of these: a sound format has no fault over them.
use Rattle.std.proofs.Common.{◌≡◌, ◌∙◌, ap, arith, refl, sym, inl, ℕ, List, [], ◌∷◌, map, None}
use Rattle.std.proofs.Common.{Option, Some}
use Rattle.std.proofs.lemmas.List.Elements.{All-nil, All-cons}
use Rattle.std.proofs.lemmas.Slice.Eq.{bytes_eq-Decides}
use Rattle.std.specs.{List.All, List.AllZip, Str.bytes_eq, Str.chars, Float.binary64}
use Rattle.interpolator.specs.Places.{At, outermost}
use Rattle.interpolator.specs.Meaning.Environments.{Environment, environment}
use Rattle.interpolator.specs.Meaning.Samples.{is_failure, shows_nothing}
use Rattle.interpolator.specs.Meaning.Resembling.{HasText, Resembles, ResemblesOn, ResemblesSlot}
use Rattle.interpolator.specs.Meaning.Resembling.{ResemblesSome}
use Rattle.interpolator.specs.Slots.{Slots, listed_slots, slot_at, slots_listed, values_of}
use Rattle.interpolator.specs.Slots.{empty_slots, with_debug_display}
use Rattle.interpolator.specs.Views.{Shown, decimal_number, float_number, shown_as_value}
use Rattle.interpolator.specs.Views.{signed_number, some_text}
use Rattle.interpolator.specs.Meaning.{AskedNames.asked_names, Meanings.means}
use Rattle.interpolator.specs.declared.{Bits.TheVariants.B128, Spec.Spec, Trait.Trait, View.View}
use Rattle.interpolator.specs.{Template.NodeSamples.faults_over, Texts.view_text}
use Rattle.interpolator_escapes.specs.{Formats.escaped_shows, declared.escape.Escape.Escape}
use Rattle.catalogue.specs.Entries.{Held, found_by, slots_by}
use Rattle.catalogue.specs.Examples.{example, example_of, example_slots, faults_of, text_example}
use Rattle.catalogue.specs.Examples.{view_shows}
use Rattle.catalogue.specs.Objects.{Gives, IsGiven, Showing, shown_by, shown_of}
use Rattle.words.specs.Lists.{item_slots, texts_show}
use Rattle.catalogue.specs.{Declarations.these, Messages.message_means, Picks.HoldsPick}
use Rattle.words.specs.Words.{Assignment, text, number, decimal, float, list}
use Rattle.words.specs.{Items.items_of, declared.Kind.Kind}
use Rattle.words.specs.declared.Kind.TheVariants as kinds
use Rattle.catalogue.specs.declared.entries.Object.{Object}
use Rattle.catalogue.proofs.HeldLemmas.{IsLike, found_alike, last_holds}

-- what is shown has a text if what shows nothing under the same traits, and fails alike, has one
abbrev pub ByKind : Type 0
ByKind = (x y : Shown) (t : Trait) (spec : Spec) → shows_nothing x t ≡ shows_nothing y t
    → is_failure x ≡ is_failure y → HasText (view_text x t spec) → HasText (view_text y t spec)

-- a format without a fault with a sample means none with what resembles the sample
abbrev pub MeansNone : Type 0
MeansNone = (finds : List ℕ → Option (Slots View)) (e : Environment View) (a : At)
    → faults_over view_shows finds a ≡ []
    → ResemblesOn view_shows view_shows e (environment finds) (asked_names a)
    → (means view_shows e a).fault ≡ None

-- an escape changes no fault
abbrev pub SameFaults : Type 0
SameFaults = (escape : Escape) (e : Environment View) (a : At)
    → (means (escaped_shows escape view_shows) e a).fault ≡ (means view_shows e a).fault

-- so a message has the fault that it has without one
same_fault : SameFaults → (escape : Option Escape) (format : List ℕ) (held : List Held)
    → (message_means escape format held).fault ≡ (message_means None format held).fault
same_fault same None format held = refl
same_fault same (Some escape) format held =
    same escape (environment (found_by held)) (outermost (chars format))

names_alike : (held examples : List Held) (names : List (List ℕ)) → AllZip IsLike held examples
    → ResemblesOn view_shows view_shows (environment (found_by held))
    (environment (found_by examples)) names
names_alike held examples [] h = tt
names_alike held examples (name ∷ names) h =
    (found_alike held examples name h, names_alike held examples names h)

-- what words give is given
pub all_given : {W : Type 0} (bytes : W → List ℕ) (words : List W) (objects : List Object)
    → AllZip (λ word object. Gives (bytes word) object) words objects → All IsGiven objects
all_given bytes words [] h = All-nil IsGiven
all_given bytes [] (o ∷ os) h = absurd h
all_given bytes (w ∷ ws) (o ∷ os) h =
    All-cons IsGiven o os (bytes w, h.0) (all_given bytes ws os h.1)

-- a value has a text wherever the example has one
abbrev HasTextsOf : View → View → Trait → Type 0
HasTextsOf value sample t = (spec : Spec) → HasText (view_text (shown_as_value sample) t spec)
    → HasText (view_text (shown_as_value value) t spec)

-- no slot of a list but its items is filled
list_slots : (t : Trait) → ResemblesSlot view_shows view_shows t
    (slot_at t (values_of (example_slots kinds.List)))
    (slot_at t (values_of (example_slots kinds.List)))
list_slots t = grind arith

-- the slots of a value of another kind resemble those of its example
slots_alike : (kind : Kind) (value : View) (t : Trait) → HasTextsOf value (example kind) t
    → ResemblesSlot view_shows view_shows t (slot_at t (values_of (slots_by kind value [])))
    (slot_at t (values_of (example_slots kind)))
slots_alike kind value t h = grind (arith, h, list_slots)

-- the kind, what the value shows and what the items show
abbrev kind_in : Showing → Kind
kind_in s = s.0.1

abbrev value_in : Showing → Shown
value_in s = s.1.0

abbrev items_in : Showing → List Shown
items_in s = s.1.1

-- an item of a list resembles the one of its example
abbrev IsLikeItem : Slots View → Type 0
IsLikeItem item =
    ResemblesSome view_shows view_shows item (listed_slots (item_slots (text_example ∷ [])))

module _ (by_kind : ByKind) (means_none : MeansNone) where
  -- what shows another value of the example's type has its texts
  texts_alike : (value sample : View) (shown : Shown) (t : Trait) → shown_as_value value ≡ shown
      → shows_nothing (shown_as_value sample) t ≡ shows_nothing shown t
      → is_failure (shown_as_value sample) ≡ is_failure shown → HasTextsOf value sample t
  texts_alike value sample shown t e same fails spec h =
      rw e (by_kind (shown_as_value sample) shown t spec same fails h)

  text_alike : (value : View) (cs : List ℕ) → shown_as_value value ≡ some_text cs
      → Resembles view_shows view_shows (with_debug_display empty_slots value)
      (with_debug_display empty_slots text_example)
  text_alike value cs e t =
      slots_alike kinds.Text value t (texts_alike value text_example (some_text cs) t e refl refl)

  -- the items of a list resemble the one of its example
  items_alike : (views : List View) (texts : List (List ℕ))
      → map shown_as_value views ≡ texts_show texts
      → All IsLikeItem (slots_listed (listed_slots (item_slots views)))
  items_alike [] texts e = All-nil IsLikeItem
  items_alike (v ∷ vs) [] e = absurd (cc)
  items_alike (v ∷ vs) (t ∷ ts) e = All-cons IsLikeItem (with_debug_display empty_slots v)
      (slots_listed (listed_slots (item_slots vs))) (inl (text_alike v (chars t) cc))
      (items_alike vs ts cc)

  -- an object that shows what an assignment does resembles the example of its kind
  object_alike : (assignment : Assignment) (object : Object)
      → shown_of object ≡ shown_by assignment
      → Resembles view_shows view_shows
      (slots_by object.kind object.value (item_slots object.items.items))
      (example_slots object.kind)
  object_alike (text name cs) object h =
      let kind : object.kind ≡ kinds.Text = ap kind_in h in
      rw kind (text_alike object.value (chars cs) (ap value_in h))
  object_alike (number name n) object h =
      let kind : object.kind ≡ kinds.Number = ap kind_in h in
      rw kind (λ t. slots_alike kinds.Number object.value t
      (texts_alike object.value (example kinds.Number) (signed_number n B128) t
      (ap value_in h) refl refl))
  object_alike (decimal name d) object h =
      let kind : object.kind ≡ kinds.Decimal = ap kind_in h in
      rw kind (λ t. slots_alike kinds.Decimal object.value t
      (texts_alike object.value (example kinds.Decimal) (decimal_number d.units d.scale) t
      (ap value_in h) refl refl))
  object_alike (float name x) object h =
      let kind : object.kind ≡ kinds.Float = ap kind_in h in
      rw kind (λ t. slots_alike kinds.Float object.value t
      (texts_alike object.value (example kinds.Float) (float_number binary64 x) t
      (ap value_in h) refl refl))
  object_alike (list name items) object h =
      let kind : object.kind ≡ kinds.List = ap kind_in h in
      rw kind (list_slots, items_alike object.items.items (items_of items) (ap items_in h))

  -- what is picked of given values resembles the examples
  pick_alike : (objects : List Object) (declared : List ℕ × Kind) (held : Held)
      → All IsGiven objects → HoldsPick objects declared held → IsLike held (example_of declared)
  pick_alike objects declared held given h =
      let found = last_holds (λ (one : Object). bytes_eq declared.0 one.name.now) IsGiven objects
      h.object given h.is.last in
      rw (h.holds, ← h.is.of_kind) (
        sym ((bytes_eq-Decides declared.0 h.object.name.now).0 found.0),
        object_alike found.1.1.0 h.object found.1.1.2,
      )

  all_alike : (objects : List Object) (ds : List (List ℕ × Kind)) (held : List Held)
      → All IsGiven objects → AllZip (HoldsPick objects) ds held
      → AllZip IsLike held (map example_of ds)
  all_alike objects [] [] g h = h
  all_alike objects [] (x ∷ xs) g h = absurd h
  all_alike objects (d ∷ ds) [] g h = absurd h
  all_alike objects (d ∷ ds) (x ∷ xs) g h =
      (pick_alike objects d x g h.0, all_alike objects ds xs g h.1)

  -- so no message fails
  pub none_fails : SameFaults → (escape : Option Escape) (format : List ℕ)
      (ds : List (List ℕ × Kind)) (objects : List Object) (held : List Held)
      → faults_of (these ds) format ≡ [] → All IsGiven objects
      → AllZip (HoldsPick objects) ds held → (message_means escape format held).fault ≡ None
  none_fails same escape format ds objects held sound g h =
      same_fault same escape format held
      ∙ means_none (found_by (map example_of ds)) _ (outermost (chars format)) sound
      (names_alike _ _ (asked_names (outermost (chars format))) (all_alike objects ds held g h))
