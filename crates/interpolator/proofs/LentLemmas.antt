-- What is under a name after the last value written to an entry is back in the map.
use Rattle.std.proofs.Common.{◌≡◌, ◌≢◌, ◌∙◌, ap, arith, ℕ, Bool, List, Option, Some}
use Rattle.std.proofs.lemmas.Slice.Eq.{bytes_eq-Decides}
use Rattle.std.specs.Prelude.{MatchOption, unwrap_or, if◌then◌else◌}
use Rattle.std.specs.{Bool.Decides, Option.option_map, Str.bytes_eq}
use Rattle.interpolator_eval.specs.NameMaps.{HasPut, IsEntry, stored_slots, under}
use Rattle.interpolator_eval.specs.Slots.{Slots, slots_of, empty_slots}
use Rattle.interpolator_eval.specs.declared.slots.Formattable.{Formattable}
use Rattle.interpolator_eval.specs.declared.context_map.NameMap.{NameMap}
use Rattle.interpolator.specs.Lent.{lent_name, with_added, with_lent}
use Rattle.interpolator.specs.declared.lent.Lent.{Lent}

module _ {V : Type 0} where
  -- what was lent has the tree that was there, or an empty one
  entry_slots : (was : Option (Formattable V)) (before : Formattable V)
      → MatchOption was (slots_of before ≡ empty_slots) (λ value. before ≡ value)
      → slots_of before ≡ unwrap_or (option_map slots_of was) empty_slots
  entry_slots was before e = grind arith

  by_name : (same : Bool) (name own : List ℕ) (was now : Option (Slots V)) (tree : Slots V)
      → Decides same (name ≡ own) → (name ≡ own → now ≡ Some tree) → (name ≢ own → now ≡ was)
      → now ≡ (if same then Some tree else was)
  by_name same name own was now tree d here others = grind arith

  pub entry_added : (old new : NameMap (Formattable V)) (lent : Lent V)
      (before last : Formattable V)
      → IsEntry (λ f. slots_of f ≡ empty_slots) old (lent_name lent) before
      → slots_of last ≡ with_lent lent (slots_of before) → HasPut old (lent_name lent) last new
      → (name : List ℕ)
      → stored_slots new name ≡ with_added name lent (stored_slots old name)
  entry_added old new lent before last entry e put name =
      by_name (bytes_eq name (lent_name lent)) name (lent_name lent) (stored_slots old name)
      (stored_slots new name) (with_lent lent (unwrap_or (stored_slots old name) empty_slots))
      (bytes_eq-Decides name (lent_name lent))
      (λ same. rw same (ap (option_map slots_of) put.here ∙ ap Some (e
      ∙ ap (with_lent lent) (entry_slots (under old (lent_name lent)) before entry))))
      (λ other. ap (option_map slots_of) (put.others name other))
