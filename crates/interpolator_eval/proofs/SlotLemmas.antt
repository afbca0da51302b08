-- The tree of a `Formattable`, one layer at a time.
use Rattle.std.proofs.Common.{arith, ◌≡◌, refl, List, [], ◌∷◌, map, Option, option_map}
use Rattle.std.proofs.Common.{option_copied, Bor}
use Rattle.interpolator_eval.specs.Slots.{Slots, Values, values_of, slots_listed, items}
use Rattle.interpolator_eval.specs.Slots.{listed_slots, with_items, layer_values, layer_slots}
use Rattle.interpolator_eval.specs.Slots.{slots_of, lent_slots}
use Rattle.interpolator_eval.specs.declared.slots.Formattable.TheShapes.{former-Formattable-iter}
use Rattle.interpolator_eval.specs.declared.slots.Formattable.{Formattable, out-roll-Formattable}
use Rattle.interpolator_eval.specs.declared.slots.Formattable.{Formattable-F, fold_out-Formattable}
use Rattle.interpolator_eval.specs.declared.slots.Formattable.{out-Formattable, roll-Formattable}

module _ {X : Type 0} where
  -- a list that is made one value, and then a list again, is the same list
  pub slots_listed-listed_slots : (list : List (Slots X)) → slots_listed (listed_slots list) ≡ list
  slots_listed-listed_slots [] = refl
  slots_listed-listed_slots (tree ∷ others) = grind (arith, slots_listed-listed_slots others)

  pub values_of-with_items :
      (filled : Values X) (list : Option (List (Slots X))) → values_of (with_items filled list) ≡ filled
  values_of-with_items filled list = grind arith

  pub items-with_items :
      (filled : Values X) (list : Option (List (Slots X))) → items (with_items filled list) ≡ list
  items-with_items filled list = grind (arith, slots_listed-listed_slots)

  -- what a fold of one layer makes of the slice
  mapped : {A : Type 0} (f : Formattable X → A) (slice : Option (Bor (List (Formattable X))))
      → option_copied ((former-Formattable-iter X).map (Formattable X) A f slice)
      ≡ option_map (λ lent. map f lent.now) slice
  mapped f slice = grind arith

  -- the tree has the slots of the first layer, and the slots_listed of the slice as its items
  slots_of-out : (formattable : Formattable X) → let layer = out-Formattable X formattable in
      slots_of formattable ≡ with_items (layer_values layer) (lent_slots layer.iter)
  unfolding slots_of
  slots_of-out formattable =
      let layer = out-Formattable X formattable in
      rw (fold_out-Formattable X (Slots X) layer_slots formattable, mapped) refl

  pub values_of-slots_of : (formattable : Formattable X)
      → values_of (slots_of formattable) ≡ layer_values (out-Formattable X formattable)
  values_of-slots_of formattable = rw slots_of-out (values_of-with_items _ _)

  pub items-slots_of : (formattable : Formattable X)
      → items (slots_of formattable) ≡ lent_slots (out-Formattable X formattable).iter
  items-slots_of formattable = rw slots_of-out (items-with_items _ _)

  -- the tree of a `Formattable` that is made of these fields
  pub slots_of-roll : (layer : Formattable-F X (Formattable X))
      → slots_of (roll-Formattable X layer)
      ≡ with_items (layer_values layer) (lent_slots layer.iter)
  slots_of-roll layer = rw (slots_of-out, out-roll-Formattable X layer) refl

-- for the goals of constructors, setters and getters
pub ruleset slots_layers =
    (slots_of-roll, values_of-slots_of, items-slots_of, values_of-with_items, items-with_items)
