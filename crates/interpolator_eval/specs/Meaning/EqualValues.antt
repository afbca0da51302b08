-- Values under names, compared by what they show and not by what they are, in two contexts whose
-- values may be of different types.
use Rattle.std.specs.Prelude.{◌≡◌, ℕ, ⊤, List, [], ◌∷◌, Option, None, Some}
use Rattle.interpolator_render.specs.{declared.view.Trait.Trait, declared.view.Spec.Spec}
use Rattle.interpolator_render.specs.{Texts.view_text, Views.Shown}
use Rattle.interpolator_eval.specs.Slots.{Values, Slots, SlotsList, bare, listed, no_slots}
use Rattle.interpolator_eval.specs.Slots.{slots_and, slot_at}
use Rattle.interpolator_eval.specs.Meaning.Environments.{Environment, slots_under}

-- `shows` is what the values of the first context show, and `others` what those of the second do
module _ {X Y : Type 0} (shows : X → Trait → Spec → Shown) (others : Y → Trait → Spec → Shown) where
  -- the slot of a trait is empty in both, or, under every spec, both values show the same text or
  -- lack one in the same way
  abbrev pub EqualSlot : Trait → Option X → Option Y → Type 0
  EqualSlot t None None = ⊤
  EqualSlot t (Some x) (Some y) =
      (spec : Spec) → view_text (shows x t spec) t spec ≡ view_text (others y t spec) t spec
  EqualSlot t _ _ = ⊥

  -- the slot of each trait is equal
  abbrev pub EqualValues : Values X → Values Y → Type 0
  EqualValues filled other = (t : Trait) → EqualSlot t (slot_at t filled) (slot_at t other)

  abbrev mutual
    -- equal slots, and either no list in both, or lists that are equal item by item
    pub EqualSlots : Slots X → Slots Y → Type 0
    EqualSlots (bare filled) (bare other) = EqualValues filled other
    EqualSlots (listed filled items) (listed other more) =
        EqualValues filled other × EqualItems items more
    EqualSlots _ _ = ⊥

    -- as many items, each equal to the one at the same index
    pub EqualItems : SlotsList X → SlotsList Y → Type 0
    EqualItems no_slots no_slots = ⊤
    EqualItems (slots_and tree items) (slots_and other more) =
        EqualSlots tree other × EqualItems items more
    EqualItems _ _ = ⊥

  -- nothing was found in both, or equal values were
  abbrev pub EqualFound : Option (Slots X) → Option (Slots Y) → Type 0
  EqualFound None None = ⊤
  EqualFound (Some found) (Some other) = EqualSlots found other
  EqualFound _ _ = ⊥

  -- two environments have equal values under each of these names
  abbrev pub EqualOn : Environment X → Environment Y → List (List ℕ) → Type 0
  EqualOn e d [] = ⊤
  EqualOn e d (name ∷ names) = EqualFound (slots_under e name) (slots_under d name) × EqualOn e d names
