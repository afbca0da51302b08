-- What is looked up under a name, by the trait; and which items of the list under it are chosen.
use Rattle.std.proofs.Common.{arith, ◌≡◌, ℕ, false, List, map, Option, Some, option_map}
use Rattle.interpolator_render.specs.{declared.view.Spec.Spec, declared.view.Trait.Trait}
use Rattle.interpolator_render.specs.declared.view.Trait.TheVariants as traits
use Rattle.interpolator_syntax.specs.{Arguments.kind_under, Lists.ListRequest, SpecTexts.of_value}
use Rattle.interpolator_syntax.specs.declared.range.Range.{Range}
use Rattle.interpolator_eval.specs.Slots.{Slots, items}
use Rattle.interpolator_eval.specs.Meaning.Environments.{Environment, slots_under}
use Rattle.interpolator_eval.specs.Meaning.Lists.{IsChosen, ChosenUnder}
use Rattle.interpolator_eval.specs.{Meaning.Choices.chosen_items, Meaning.Meanings.forbids_list}
use Rattle.interpolator_eval.proofs.MeaningLemmas.ChoiceLemmas.{map-chosen}

-- each trait but `Iter` stands for a value
pub value_asked : (t : Trait) (form : ListRequest) → (t ≡ traits.Iter → ⊥)
    → kind_under t form ≡ of_value t
value_asked t form h = grind arith

-- the items that a range chooses of a list are those that are chosen under its name
pub chosen_under : {F X : Type 0} (e : Environment X) (name : List ℕ) (range : Option Range)
    (tree : F → Slots X) (xs ys : List F)
    → Some (Some (map tree xs)) ≡ option_map items (slots_under e name)
    → ys ≡ chosen_items range xs → ChosenUnder e name range (map tree ys)
chosen_under e name range tree xs ys found chosen = record {
  listed = map tree xs;
  found = found;
  chosen_of = rw chosen (map-chosen tree range xs);
}

module _ {X : Type 0} (e : Environment X) (name : List ℕ) (start : ℕ) (range : Option Range)
    (spec : Spec) (end : ℕ) where
  -- the items that a range chooses of a list, if a list may have the spec
  pub list_chosen : {F : Type 0} (tree : F → Slots X) (xs ys : List F)
      → Some (Some (map tree xs)) ≡ option_map items (slots_under e name) → forbids_list spec ≡ false
      → ys ≡ chosen_items range xs → IsChosen e name start range spec end (map tree ys)
  list_chosen tree xs ys found may chosen join item = grind (arith, map-chosen tree range xs)
