-- Lists: what is written for the list under a name, and a text that is made whole.
use Rattle.std.specs.Prelude.{◌≡◌, ℕ, List, Option, Some, option_map}
use Rattle.interpolator_render.specs.{declared.view.Spec.Spec, Writers.Written}
use Rattle.interpolator_syntax.specs.{Places.text_of, declared.range.Range.Range}
use Rattle.interpolator_syntax.specs.{declared.error.Error.Error, Faults.answer_of}
use Rattle.interpolator_eval.specs.Slots.{Slots, items}
use Rattle.interpolator_eval.specs.Meaning.Environments.{Environment, slots_under}
use Rattle.interpolator_eval.specs.Meaning.Meanings.{Meaning, buffered_means, under_name}
use Rattle.interpolator_eval.specs.Meaning.Meanings.{listed_means, padded_list, items_mean}
use Rattle.interpolator_eval.specs.{Meaning.Choices.chosen_items, Meaning.Outcomes.Outcome}

-- what a list means whose text is made whole and padded, by what its items mean
abbrev pub padded_list_means : Spec → (end : ℕ) → Meaning → Meaning
padded_list_means spec end m = buffered_means spec end m.fault (text_of m.text)

-- the list under a name, for an argument that starts at `start` and whose spec ends at `end`, by
-- what the join and an item mean
module _ {X : Type 0} (e : Environment X) (name : List ℕ) (start : ℕ) (range : Option Range)
    (spec : Spec) (end : ℕ) where
  abbrev pub list_under_name : (join : Meaning) → (item : Slots X → Meaning) → Meaning
  list_under_name join item =
      under_name name start (λ found. listed_means range spec end join item (items found))
      (slots_under e name)

  -- the list means what these items of it mean, whatever the join and an item mean
  abbrev pub IsChosen : List (Slots X) → Type 0
  IsChosen chosen =
      (join : Meaning) → (item : Slots X → Meaning)
      → list_under_name join item ≡ padded_list spec end (items_mean join item chosen)

  -- nothing of the list is written, and this is the error, whatever the join and an item mean
  abbrev pub IsNotChosen : Error → Type 0
  IsNotChosen error =
      (join : Meaning) → (item : Slots X → Meaning) → (w : Written)
      → Outcome (list_under_name join item) w w (Some (answer_of error))

-- these are the items that a range chooses of the list under a name
pub record ChosenUnder {X : Type 0} (e : Environment X) (name : List ℕ) (range : Option Range)
    (chosen : List (Slots X)) : Type 0 where
  pub listed : List (Slots X)
  pub found : Some (Some listed) ≡ option_map items (slots_under e name)
  pub chosen_of : chosen ≡ chosen_items range listed
