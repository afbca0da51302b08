-- The list that a table lends.
use Rattle.std.specs.Prelude.{List, map, ◌≡◌}
use Rattle.std.specs.Option.{option_map}
use Rattle.interpolator_render.specs.{Views.Shown, Views.shown_by, declared.view.View.View}
use Rattle.interpolator_eval.specs.Slots.{Slots, SlotsList, Values, bare, listed, no_slots}
use Rattle.interpolator_eval.specs.Slots.{slots_and, empty_slots, with_integer, with_iter}

-- what the values of the slots show
abbrev pub shown_values : Values View → Values Shown
shown_values filled = record {
  debug = option_map shown_by filled.debug;
  display = option_map shown_by filled.display;
  binary = option_map shown_by filled.binary;
  lower_exp = option_map shown_by filled.lower_exp;
  lower_hex = option_map shown_by filled.lower_hex;
  octal = option_map shown_by filled.octal;
  upper_exp = option_map shown_by filled.upper_exp;
  upper_hex = option_map shown_by filled.upper_hex;
}

unfoldable mutual
  -- what the values of a tree show
  pub shown_tree : Slots View → Slots Shown
  shown_tree (bare filled) = bare (shown_values filled)
  shown_tree (listed filled others) = listed (shown_values filled) (shown_trees others)

  -- what the values of a list of trees show
  pub shown_trees : SlotsList View → SlotsList Shown
  shown_trees no_slots = no_slots
  shown_trees (slots_and tree others) = slots_and (shown_tree tree) (shown_trees others)

-- a row as a list: an item for each cell, with the eight slots filled
abbrev pub row_tree : List Shown → Slots Shown
row_tree row = with_iter empty_slots (map (with_integer empty_slots) row)

-- these are the trees of rows that show this
abbrev pub Lends : List (List Shown) → List (Slots View) → Type 0
Lends rows trees = map shown_tree trees ≡ map row_tree rows
