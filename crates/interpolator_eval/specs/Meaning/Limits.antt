-- Values within limits: how long a text that a value shows, and how many items a list may have.
use Rattle.std.specs.Prelude.{ℕ, suc, ◌+◌, ◌-◌, ◌≤◌, min, ⊤, List, [], ◌∷◌, length, Option, None}
use Rattle.std.specs.Prelude.{Some, ℤ, negsuc, Bool, if◌then◌else◌}
use Rattle.interpolator_render.specs.{declared.view.Trait.Trait, declared.view.Spec.Spec}
use Rattle.interpolator_render.specs.{Lengths.IsShownWithin, Views.Shown}
use Rattle.interpolator_syntax.specs.declared.range.Range.{Range}
use Rattle.interpolator_eval.specs.Slots.{Values, Slots, SlotsList, bare, listed, no_slots}
use Rattle.interpolator_eval.specs.Slots.{slots_and, slot_at, slots_listed}
use Rattle.interpolator_eval.specs.Meaning.Choices.{places_of}
use Rattle.interpolator_eval.specs.Meaning.Environments.{Environment, slots_under}

-- `shows` is what a value shows under a trait and a spec; a text has at most `text` characters, and
-- a list at most `items` items
module _ {X : Type 0} (shows : X → Trait → Spec → Shown) (text items : ℕ) where
  -- the slot of a trait is empty, or its value shows a text within the limit under every spec
  abbrev pub SlotWithin : Trait → Option X → Type 0
  SlotWithin t None = ⊤
  SlotWithin t (Some x) = (spec : Spec) → IsShownWithin text (shows x t spec)

  -- the slot of each trait is within the limit
  abbrev pub ValuesWithin : Values X → Type 0
  ValuesWithin filled = (t : Trait) → SlotWithin t (slot_at t filled)

  abbrev mutual
    -- values within the limit and, if there is a list, no more items than it may have, each within
    -- the limits
    pub SlotsWithin : Slots X → Type 0
    SlotsWithin (bare filled) = ValuesWithin filled
    SlotsWithin (listed filled others) =
        ValuesWithin filled × (length (slots_listed others) ≤ items) × ItemsWithin others

    -- each item of a list is within the limits
    pub ItemsWithin : SlotsList X → Type 0
    ItemsWithin no_slots = ⊤
    ItemsWithin (slots_and tree others) = SlotsWithin tree × ItemsWithin others

  -- nothing was found, or values within the limits
  abbrev pub FoundWithin : Option (Slots X) → Type 0
  FoundWithin None = ⊤
  FoundWithin (Some found) = SlotsWithin found

  -- what an environment has under each of these names is within the limits
  abbrev pub IsWithin : Environment X → List (List ℕ) → Type 0
  IsWithin e [] = ⊤
  IsWithin e (name ∷ names) = FoundWithin (slots_under e name) × IsWithin e names

-- ---- the items that a range chooses

-- the most items from one that is `first` items before the list's end up to a bound: if that counts
-- from the end too, they are as far apart in every list
abbrev pub most_from_end : (most first : ℕ) → (inclusive : Bool) → (upper : Option ℤ) → ℕ
most_from_end most first inclusive (Some (negsuc k)) =
    min most (first - suc k + (if inclusive then 1 else 0))
most_from_end most first inclusive _ = min most first

-- the most items that a range chooses of a list of at most `most` items, by its lower bound: if
-- that counts from the beginning, it chooses the most of the longest list
abbrev pub most_from : (most : ℕ) → Range → (lower : Option ℤ) → ℕ
most_from most range (Some (negsuc k)) = most_from_end most (suc k) range.inclusive range.upper
most_from most range _ = (places_of most range).1 - (places_of most range).0

-- the most items that a range chooses of a list of at most `most` items; all, if there is no range
abbrev pub most_chosen : (most : ℕ) → Option Range → ℕ
most_chosen most None = most
most_chosen most (Some range) = most_from most range range.lower
