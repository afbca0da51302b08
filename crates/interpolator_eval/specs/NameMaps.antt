-- A map from names, which are lists of characters, and what a loan of a value leaves in it.
use Rattle.std.specs.Prelude.{◌≡◌, ◌≢◌, ℕ, ◌+◌, List, Option, Some, Result, MatchOption, is_some}
use Rattle.std.specs.Prelude.{if◌then◌else◌, length, false}
use Rattle.std.specs.Option.{option_map, option_or, OnSome}
use Rattle.std.specs.Borrow.{LendsSo, LendsSoOk, Fml, RattleType, MutBor}
use Rattle.std.specs.{Str.bytes_eq, Str.encode_utf8_all, HashMap.hash_map_len, HashMap.get_by_text}
use Rattle.interpolator_eval.specs.Slots.{Slots, slots_of}
use Rattle.interpolator_eval.specs.{NameNumbers.value_of, declared.slots.Formattable.Formattable}
use Rattle.interpolator_eval.specs.declared.context_map.NameMap.{NameMap}
use Rattle.interpolator_eval.specs.contracts.context_map.NameMap.{the_row}

module _ {T : Type 0} where
  -- the value under the bytes of a name, among the few names or among the rest
  abbrev pub under_bytes : NameMap T → List ℕ → Option T
  under_bytes map name =
      option_or (value_of map.few.items map.guesses name) (get_by_text map.rest name)

  -- the value under the name
  abbrev pub under : NameMap T → List ℕ → Option T
  under map name = under_bytes map (encode_utf8_all name)

  -- how many names the map has
  abbrev pub name_count : NameMap T → ℕ
  name_count map = length map.few.items + hash_map_len map.rest

  -- `new` is `old` with the value under the name, which counts once
  pub record HasPut (old : NameMap T) (name : List ℕ) (value : T) (new : NameMap T) : Type 0 where
    pub here : under new name ≡ Some value
    pub others : (other : List ℕ) → other ≢ name → under new other ≡ under old other
    pub count : name_count new ≡ name_count old + (if is_some (under old name) then 0 else 1)

  -- `new` has the names of `old`, and the same value under each
  pub record IsSame (old new : NameMap T) : Type 0 where
    pub finds : (name : List ℕ) → under new name ≡ under old name
    pub count : name_count new ≡ name_count old

  -- a name of these bytes was put in with a default value
  pub record HasNew (IsDefault : T → Type 0) (old : NameMap T) (bytes : List ℕ)
      (new : NameMap T) : Type 0 where
    pub value : T
    pub fresh : IsDefault value
    pub here : under_bytes new bytes ≡ Some value
    pub others : (other : List ℕ) → bytes_eq other bytes ≡ false
        → under_bytes new other ≡ under_bytes old other
    pub count : name_count new ≡ name_count old + 1

  -- an absent name was put in with a default value; if the name was there, nothing changed
  abbrev pub HasAdded : (T → Type 0) → NameMap T → List ℕ → NameMap T → Type 0
  HasAdded IsDefault old name new = MatchOption (under old name)
      ((value : T) × (IsDefault value × HasPut old name value new)) (λ _. IsSame old new)

  -- the value that is lent is the one under the name, or a default one if the name was absent
  abbrev pub IsEntry : (T → Type 0) → NameMap T → List ℕ → T → Type 0
  IsEntry IsDefault old name lent =
      MatchOption (under old name) (IsDefault lent) (λ value. lent ≡ value)

-- once the loan ends, the last value written is under the name; without a loan nothing changed
abbrev pub LendsUnder : (T : RattleType) (map : MutBor (NameMap T.Denot))
    (name : List ℕ) → Option (MutBor T.Denot) → Fml
LendsUnder T map name lent = LendsSo (the_row T) T map lent
    (λ new last. OnSome lent (HasPut map.now name last new)) (λ new. IsSame map.now new)

-- the same for a call that may fail
abbrev pub LendsEntry : {E : Type 0} (T : RattleType) (map : MutBor (NameMap T.Denot))
    (name : List ℕ) → Result (MutBor T.Denot) E → Fml
LendsEntry T map name lent = LendsSoOk (the_row T) T map lent
    (λ new last. HasPut map.now name last new) (λ new. IsSame map.now new)

-- the tree under the name, in a map of `Formattable`s
abbrev pub stored_slots : {X : Type 0} → NameMap (Formattable X) → List ℕ → Option (Slots X)
stored_slots map name = option_map slots_of (under map name)
