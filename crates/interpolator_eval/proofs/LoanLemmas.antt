-- What an insertion into a map of names leaves, and what a loan of a value does.
use Rattle.std.proofs.Common.{◌≡◌, ◌≢◌, ◌∙◌, ◌≤◌, ◌<◌, refl, sym, ℕ, ◌+◌, List, ◌∷◌, [], Option}
use Rattle.std.proofs.Common.{None, Some, Bool, true, false, arith, length, set, ◌⊎◌, inl, inr, ◌%◌}
use Rattle.std.proofs.Common.{◌^◌, nat_le, nat_eq, slice_index, slice_set, String, Global, Bor}
use Rattle.std.proofs.Common.{MutBor, option_copied, is_some, OnSome, bytes_eq, encode_utf8_all}
use Rattle.std.proofs.Common.{string_bytes, string_eq, if◌then◌else◌, get_or, ◌++◌, ◌&&◌, ◌==◌}
use Rattle.std.proofs.lemmas.List.{length-set, length-append, get_or-set_same, get_or-set_other}
use Rattle.std.proofs.{lemmas.Bool.false_from_ne_true, lemmas.Map.Text.hash_map_updates_text}
use Rattle.std.proofs.{lemmas.Slice.Eq.bytes_eq-Decides, lemmas.Str.encodes_same}
use Rattle.std.specs.Option.{option_copied_mut, option_map, option_or}
use Rattle.std.specs.HashMap.{get_by_text, hash_map_len, WritesThrough, Updates, UpdatesBy}
use Rattle.interpolator_eval.specs.NameMaps.{under, under_bytes, HasPut, HasNew, HasAdded}
use Rattle.interpolator_eval.specs.NameNumbers.{is_of, value_of, name_number, guess_index}
use Rattle.interpolator_eval.specs.NameNumbers.{guess_for, guessed, guessed_place, remade}
use Rattle.interpolator_eval.specs.declared.numbered.Numbered.{Numbered}
use Rattle.interpolator_eval.specs.declared.context_map.NameMap.{NameMap}
use Rattle.interpolator_eval.proofs.GuessLemmas.{chosen_is, chosen_passes, other_more, other_at_end}
use Rattle.interpolator_eval.proofs.GuessLemmas.{own_at_end, own_searched, other_over, own_over}

-- two names with the same bytes are the same name
other_bytes : (name other : List ℕ) → other ≢ name
    → bytes_eq (encode_utf8_all name) (encode_utf8_all other) ≡ false
other_bytes name other differs = grind (arith, false_from_ne_true, encodes_same, bytes_eq-Decides)

flipped : (a b : List ℕ) → bytes_eq a b ≡ false → bytes_eq b a ≡ false
flipped a b differs = grind (arith, false_from_ne_true, bytes_eq-Decides, differs)

or_none : {X : Type 0} (a b : Option X) → option_or a b ≡ None → a ≡ None
or_none None b is = refl
or_none (Some x) b is = is

no_value : {X Y : Type 0} (f : X → Y) (o : Option X) → option_map f o ≡ None → o ≡ None
no_value f None is = refl
no_value f (Some x) is = grind (arith, is)

and_right : (a b : Bool) → a && b ≡ true → b ≡ true
and_right true b is = is
and_right false b is = grind (arith, is)

and_false : (a : Bool) → a && false ≡ false
and_false true = refl
and_false false = refl

module _ (guesses : List ℕ) (index place : ℕ) (small : place < 256)
    (within : index < length guesses) where
  set_guess : slice_index (slice_set guesses index (place % 2 ^ 8)) index ≡ place
  set_guess = get_or-set_same guesses index (place % 2 ^ 8) 0 within ∙ omega (arith, small)

  -- any guess then is as it was, or that of the place, which was past it
  other_guess : (other : ℕ)
      → (slice_index (remade guesses index place) other ≡ slice_index guesses other)
      ⊎ ((slice_index (remade guesses index place) other ≡ place)
      × (place ≤ slice_index guesses other))
  other_guess other = by (nat_le place (slice_index guesses index)) refl
    where
      at : (b : Bool) → nat_eq other index ≡ b → place ≤ slice_index guesses index
          → (slice_index (slice_set guesses index (place % 2 ^ 8)) other ≡ slice_index guesses other)
          ⊎ ((slice_index (slice_set guesses index (place % 2 ^ 8)) other ≡ place)
          × (place ≤ slice_index guesses other))
      at true e past =
          let same : other ≡ index = grind (arith, e) in
          inr (rw same set_guess, rw same past)
      at false e past =
          inl (get_or-set_other guesses index other (place % 2 ^ 8) 0 (λ same. grind (arith, e, same)))

      by : (b : Bool) → nat_le place (slice_index guesses index) ≡ b
          → (slice_index (if b then slice_set guesses index (place % 2 ^ 8) else guesses) other
          ≡ slice_index guesses other)
          ⊎ ((slice_index (if b then slice_set guesses index (place % 2 ^ 8) else guesses) other
          ≡ place)
          × (place ≤ slice_index guesses other))
      by true k = at (nat_eq other index) refl (grind (arith, k))
      by false k = inl refl

  -- its own is that of the place, or of an earlier one
  own_guess : (slice_index (remade guesses index place) index ≡ place)
      ⊎ ((slice_index (remade guesses index place) index ≡ slice_index guesses index)
      × (slice_index guesses index < place))
  own_guess = by (nat_le place (slice_index guesses index)) refl
    where
      by : (b : Bool) → nat_le place (slice_index guesses index) ≡ b
          → (slice_index (if b then slice_set guesses index (place % 2 ^ 8) else guesses) index
          ≡ place)
          ⊎ ((slice_index (if b then slice_set guesses index (place % 2 ^ 8) else guesses) index
          ≡ slice_index guesses index)
          × (slice_index guesses index < place))
      by true k = inl set_guess
      by false k = inr (refl, grind (arith, k))

module _ {T : Type 0} where
  -- an entry of one name is of no other
  other_entry : (entry : Numbered T) (name other : List ℕ) → other ≢ name
      → is_of (encode_utf8_all name) entry ≡ true → is_of (encode_utf8_all other) entry ≡ false
  other_entry entry name other differs is =
      let own = string_bytes entry.name in
      let same : bytes_eq (encode_utf8_all name) own ≡ true =
      and_right (entry.number == name_number (encode_utf8_all name)) _ is in
      let eq : encode_utf8_all name ≡ own = grind (arith, bytes_eq-Decides, same) in
      let no : bytes_eq (encode_utf8_all other) own ≡ false =
      rw (← eq) (other_bytes other name (λ e. differs (sym e))) in
      rw no (and_false (entry.number == name_number (encode_utf8_all other)))

  -- what was written through a loan of the value of an entry
  pub lent_few :
      (old new : NameMap T) (name bytes : List ℕ)
      (place : ℕ) (entry : Numbered T) (last : T)
      → bytes ≡ encode_utf8_all name
      → place ≡ guessed_place (is_of bytes) old.few.items (guess_for old.guesses bytes)
      → place < length old.few.items
      → entry ≡ get_or old.few.items place entry
      → new.few.items ≡ set old.few.items place
      (record { number = entry.number; name = entry.name; value = last })
      → new.guesses ≡ old.guesses → new.rest ≡ old.rest
      → HasPut old name last new
  lent_few old new name bytes place entry last spelt at within is few guesses rest =
      let entries = old.few.items in
      let guess = guess_for old.guesses bytes in
      let written : Numbered T = record { number = entry.number; name = entry.name; value = last } in
      let found = chosen_is (is_of bytes) entries guess place entry at within is in
      let own = chosen_passes (is_of bytes) entries guess entry found in
      record {
        here = rw (
          ← spelt,
          few,
          guesses,
          own_over (is_of bytes) entries place guess entry written at within is own,
        ) refl;
        others = λ other differs.
            let fails = other_entry entry name other differs (rw (← spelt) own) in
            rw (
              few,
              guesses,
              rest,
              other_over (is_of (encode_utf8_all other)) entries place
                  (guess_for old.guesses (encode_utf8_all other)) entry written is fails fails,
            ) refl;
        count = rw (← spelt, found, few, rest)
            (omega (arith, length-set entries place written));
      }

  -- a change at the bytes of one name among the rest leaves the others
  others_kept :
      (old new : NameMap T) (name bytes : List ℕ) (value : Option T) → bytes ≡ encode_utf8_all name
      → UpdatesBy string_eq (λ key. bytes_eq bytes (string_bytes key)) old.rest new.rest value
      → new.few.items ≡ old.few.items → new.guesses ≡ old.guesses
      → (other : List ℕ) → other ≢ name → under new other ≡ under old other
  others_kept old new name bytes value spelt updates few guesses other differs =
      rw (
        hash_map_updates_text bytes old.rest new.rest value updates (encode_utf8_all other),
        few,
        guesses,
        spelt,
        other_bytes name other differs,
      ) refl

  -- what was written through a loan of the value under a name among the rest
  pub lent_in :
      (old new : NameMap T) (lent : Option (MutBor T)) (name bytes : List ℕ) (last : T)
      → bytes ≡ encode_utf8_all name
      → value_of old.few.items old.guesses bytes ≡ None
      → new.few.items ≡ old.few.items → new.guesses ≡ old.guesses
      → option_copied_mut lent ≡ under old name
      → WritesThrough string_eq (λ key. bytes_eq bytes (string_bytes key)) old.rest last new.rest
      → OnSome lent (HasPut old name last new)
  lent_in old new None name bytes last spelt none few guesses value writes = tt
  lent_in old new (Some lent) name bytes last spelt none few guesses value writes =
      let rest : option_copied_mut (Some lent) ≡ get_by_text old.rest bytes =
      rw spelt (value ∙ rw (← spelt, none) refl) in
      let updates = writes.3 (rw (← rest) refl) in record {
        here = rw (← spelt, few, guesses, none) updates.1;
        others = others_kept old new name bytes (Some last) spelt updates few guesses;
        count = rw (← value, few) (grind (arith, writes.2));
      }

  -- an entry is that of its own name
  own_entry : (entry : Numbered T) → entry.number ≡ name_number (string_bytes entry.name)
      → is_of (string_bytes entry.name) entry ≡ true
  own_entry entry number = grind (arith, number, bytes_eq-Decides)

  no_entry : (entry : Numbered T) (other : List ℕ) → bytes_eq other (string_bytes entry.name) ≡ false
      → is_of other entry ≡ false
  no_entry entry other differs =
      rw differs (and_false (entry.number == name_number other))

  -- what a new entry's name finds, and what another's does
  module _ (entries : List (Numbered T)) (guesses : List ℕ) (entry : Numbered T)
      (small : length entries < 256) where
    own_value : (name : List ℕ) (index : ℕ) → index < length guesses
        → is_of name entry ≡ true
        → guessed (is_of name) entries (slice_index guesses index) ≡ None
        → guessed (is_of name) (entries ++ entry ∷ [])
        (slice_index (remade guesses index (length entries)) index) ≡ Some entry
    own_value name index within is none =
        elim (own_guess guesses index (length entries) small within) [
          | inl e ↦ rw e (own_at_end (is_of name) entries entry is)
          | inr w ↦ rw w.0 (own_searched (is_of name) entries entry (slice_index guesses index) is w.1
              none)
        ]

    other_value : (name : List ℕ) (index other : ℕ) → index < length guesses
        → is_of name entry ≡ false
        → guessed (is_of name) (entries ++ entry ∷ [])
        (slice_index (remade guesses index (length entries)) other)
        ≡ guessed (is_of name) entries (slice_index guesses other)
    other_value name index other within fails =
        elim (other_guess guesses index (length entries) small within other) [
          | inl e ↦ rw e (other_more (is_of name) entries entry (slice_index guesses other) fails)
          | inr w ↦ rw w.0 (other_at_end (is_of name) entries entry (slice_index guesses other) fails
              w.1)
        ]

  -- a new entry behind the others
  pub few_in :
      (IsDefault : T → Type 0) (old new : NameMap T) (entry : Numbered T)
      → entry.number ≡ name_number (string_bytes entry.name) → IsDefault entry.value
      → under_bytes old (string_bytes entry.name) ≡ None
      → length old.few.items < 256
      → guess_index (name_number (string_bytes entry.name)) < length old.guesses
      → new.few.items ≡ old.few.items ++ entry ∷ [] → new.rest ≡ old.rest
      → new.guesses ≡ remade old.guesses (guess_index (name_number (string_bytes entry.name)))
      (length old.few.items)
      → HasNew IsDefault old (string_bytes entry.name) new
  few_in IsDefault old new entry number fresh absent small within few rest guesses =
      let entries = old.few.items in
      let bytes = string_bytes entry.name in
      let index = guess_index (name_number bytes) in
      let none = no_value (λ e. e.value) (guessed (is_of bytes) entries (guess_for old.guesses bytes))
      (or_none (value_of entries old.guesses bytes) (get_by_text old.rest bytes) absent) in
      record {
        value = entry.value;
        fresh = fresh;
        here = rw (
          few,
          guesses,
          own_value entries old.guesses entry small bytes index within
              (own_entry entry number) none,
        ) refl;
        others = λ other differs. rw (
          few,
          rest,
          guesses,
          other_value entries old.guesses entry small
              other index (guess_index (name_number other)) within (no_entry entry other differs),
        ) refl;
        count = rw (few, rest) (omega (arith, length-append entries (entry ∷ [])));
      }

  -- a new name among the rest
  pub rest_in :
      (IsDefault : T → Type 0) (old new : NameMap T) (key : String Global) (value : T)
      (replaced : Option T) → IsDefault value
      → under_bytes old (string_bytes key) ≡ None
      → Updates string_eq old.rest new.rest key (Some value)
      → replaced ≡ get_by_text old.rest (string_bytes key)
      → hash_map_len new.rest ≡ hash_map_len old.rest + (if is_some replaced then 0 else 1)
      → new.few.items ≡ old.few.items → new.guesses ≡ old.guesses
      → HasNew IsDefault old (string_bytes key) new
  rest_in IsDefault old new key value replaced fresh absent updates was count few guesses =
      let bytes = string_bytes key in
      let first = or_none (value_of old.few.items old.guesses bytes) (get_by_text old.rest bytes)
      absent in
      let rest : get_by_text old.rest bytes ≡ None = rw first at absent in record {
        value = value;
        fresh = fresh;
        here = rw (few, guesses, first) updates.1;
        others = λ other differs. rw (
          few,
          guesses,
          hash_map_updates_text bytes old.rest new.rest (Some value) updates other,
          flipped other bytes differs,
        ) refl;
        count = rw few (grind (arith, count, was, rest));
      }

  -- a new name was absent, and has a default value
  pub added : (IsDefault : T → Type 0) (old new : NameMap T) (name bytes : List ℕ)
      → bytes ≡ encode_utf8_all name → under old name ≡ None → HasNew IsDefault old bytes new
      → HasAdded IsDefault old name new
  added IsDefault old new name bytes spelt absent is =
      let put : HasPut old name is.value new = record {
        here = rw (← spelt) is.here;
        others = λ other differs. is.others (encode_utf8_all other)
            (rw spelt (other_bytes other name (λ e. differs (sym e))));
        count = rw absent is.count;
      } in
      rw absent (is.value, (is.fresh, put))

  -- what a look-up that finds nothing says
  pub absent_name :
      (old : NameMap T) (name : List ℕ) (found : Option (Bor T))
      → option_copied found ≡ under old name
      → is_some found ≡ false → under old name ≡ None
  absent_name old name found value e = grind arith
