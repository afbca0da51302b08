-- List arguments: what their chosen items mean before they are padded, and where that ends.
use Rattle.std.specs.Prelude.{◌≡◌, ℕ, ⊤, ◌⊎◌, List, [], ◌∷◌, ◌++◌, flat_map, None, Some}
use Rattle.interpolator_render.specs.{declared.view.Trait.Trait, declared.view.Spec.Spec}
use Rattle.interpolator_render.specs.Views.{Shown}
use Rattle.interpolator_syntax.specs.{Places.Placed, Lists.ListRequest, SpecTexts.of_list}
use Rattle.interpolator_syntax.specs.{Arguments.Argument, Faults.Fault}
use Rattle.interpolator_eval.specs.Slots.{Slots, items}
use Rattle.interpolator_eval.specs.Meaning.Choices.{chosen_items}
use Rattle.interpolator_eval.specs.Meaning.Environments.{Environment, slots_under}
use Rattle.interpolator_eval.specs.Meaning.Meanings.{Meaning, item_means, join_means, chosen_means}
use Rattle.interpolator_eval.specs.Meaning.Meanings.{argument_means}

-- the argument is a list of the form l, and under its name is a list of the items ts
pub record FindsList {X : Type 0} (e : Environment X) (x : Argument) (l : ListRequest)
    (ts : List (Slots X)) : Type 0 where
  pub asked : x.kind ≡ of_list l
  pub found : Slots X
  pub gives : slots_under e x.name ≡ Some found
  pub listed : items found ≡ Some ts

module _ {A : Type 0} (join : Meaning) (item : A → Meaning) where
  -- none of the items has a fault
  abbrev pub AllFinish : List A → Type 0
  AllFinish [] = ⊤
  AllFinish (x ∷ xs) = ((item x).fault ≡ None) × AllFinish xs

  -- the texts of the items in order, and that of the join between two of them
  abbrev pub joined_texts : List A → Placed
  joined_texts [] = []
  joined_texts (x ∷ xs) = (item x).text ++ flat_map (λ y. join.text ++ (item y).text) xs

  -- the first fault, and the text up to it: it is that of an item, and no item before that has one,
  -- nor has the join; or it is that of the join after the first item
  pub data FirstFault (xs : List A) (f : Fault) (text : Placed) : Type 0 where
    in_item :
        (front : List A) (x : A) (back : List A) → xs ≡ front ++ (x ∷ back) → AllFinish front
        → (front ≡ []) ⊎ (join.fault ≡ None) → (item x).fault ≡ Some f
        → text ≡ joined_texts (front ++ (x ∷ [])) → FirstFault xs f text
    in_join :
        (x y : A) (back : List A) → xs ≡ x ∷ y ∷ back → (item x).fault ≡ None
        → join.fault ≡ Some f → text ≡ (item x).text ++ join.text → FirstFault xs f text

module _ {X : Type 0} (shows : X → Trait → Spec → Shown) (e : Environment X) where
  -- what an argument means that starts at `start` and whose spec ends at `end`
  abbrev pub argument_meaning : (start : ℕ) → Argument → (end : ℕ) → Meaning
  argument_meaning start x end = argument_means shows e start x end

  -- what the join of a list means
  abbrev pub join_of : ListRequest → Meaning
  join_of l = join_means shows e l.join

  -- what an item of a list means
  abbrev pub item_of : ListRequest → (end : ℕ) → Slots X → Meaning
  item_of l end item = item_means shows e end l.item item

  -- what the chosen items mean, one after the other, before they are padded
  abbrev pub items_alone : ListRequest → (end : ℕ) → List (Slots X) → Meaning
  items_alone l end ts = chosen_means shows e l end (chosen_items l.range ts)
