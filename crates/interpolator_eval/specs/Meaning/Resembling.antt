-- When a context resembles a sample: what is filled in the sample is filled in the context, what
-- has a text there has one here, and what is a list there is one here.
use Rattle.std.specs.Prelude.{ℕ, ⊤, ◌⊎◌, List, [], ◌∷◌, Option, None, Some, All}
use Rattle.interpolator_render.specs.{declared.view.Trait.Trait, declared.view.Spec.Spec}
use Rattle.interpolator_render.specs.{Texts.ViewText, Texts.has_text, Texts.view_text, Views.Shown}
use Rattle.interpolator_eval.specs.Slots.{Values, Slots, SlotsList, bare, listed, no_slots}
use Rattle.interpolator_eval.specs.Slots.{slots_and, values_of, items, slot_at}
use Rattle.interpolator_eval.specs.Meaning.Environments.{Environment, slots_under}

-- there is a text
abbrev pub HasText : ViewText → Type 0
HasText (has_text text) = ⊤
HasText _ = ⊥

-- there is a list, and P holds for each of its items
abbrev pub IsListOf : {Y : Type 0} → (Y → Type 0) → Option (List Y) → Type 0
IsListOf P None = ⊥
IsListOf P (Some ys) = All P ys

-- `shows` is what the values of the sample show, and `others` what those of the other context do
module _ {X Y : Type 0} (shows : X → Trait → Spec → Shown) (others : Y → Trait → Spec → Shown) where
  -- the slot of a trait is filled if the sample's is, and its value has a text under each spec under
  -- which the sample's has one
  abbrev pub ResemblesSlot : Trait → Option Y → Option X → Type 0
  ResemblesSlot t other None = ⊤
  ResemblesSlot t None (Some x) = ⊥
  ResemblesSlot t (Some y) (Some x) =
      (spec : Spec) → HasText (view_text (shows x t spec) t spec)
      → HasText (view_text (others y t spec) t spec)

  -- the slot of each trait resembles the sample's
  abbrev pub ResemblesValues : Values Y → Values X → Type 0
  ResemblesValues other filled = (t : Trait) → ResemblesSlot t (slot_at t other) (slot_at t filled)

  abbrev mutual
    -- each slot resembles the sample's, and there is a list if the sample has one: each of its
    -- items resembles some item of the sample's
    pub Resembles : Slots Y → Slots X → Type 0
    Resembles other (bare filled) = ResemblesValues (values_of other) filled
    Resembles other (listed filled ts) =
        ResemblesValues (values_of other) filled
        × IsListOf (λ item. ResemblesSome item ts) (items other)

    -- it resembles one of these
    pub ResemblesSome : Slots Y → SlotsList X → Type 0
    ResemblesSome other no_slots = ⊥
    ResemblesSome other (slots_and t ts) = Resembles other t ⊎ ResemblesSome other ts

  -- if something was found in the sample, something was found here that resembles it
  abbrev pub ResemblesFound : Option (Slots Y) → Option (Slots X) → Type 0
  ResemblesFound other None = ⊤
  ResemblesFound None (Some t) = ⊥
  ResemblesFound (Some other) (Some t) = Resembles other t

  -- what is under each of these names resembles what the sample has there
  abbrev pub ResemblesOn : Environment Y → Environment X → List (List ℕ) → Type 0
  ResemblesOn e sample [] = ⊤
  ResemblesOn e sample (name ∷ names) =
      ResemblesFound (slots_under e name) (slots_under sample name) × ResemblesOn e sample names
