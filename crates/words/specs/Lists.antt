-- What the items of lists show, and the slots that they fill.
use Rattle.std.specs.Prelude.{ℕ, List, map}
use Rattle.std.specs.Str.{chars}
use Rattle.interpolator.specs.Slots.{Slots, empty_slots, with_debug_display}
use Rattle.interpolator.specs.Views.{Shown, some_text}

-- what texts show
abbrev pub texts_show : List (List ℕ) → List Shown
texts_show texts = map (λ text. some_text (chars text)) texts

-- items of a list, each with its slots of debug and display filled, and no other
abbrev pub item_slots : {X : Type 0} → List X → List (Slots X)
item_slots values = map (λ value. with_debug_display empty_slots value) values
