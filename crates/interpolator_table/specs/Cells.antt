-- What cells show, and where rows end.
use Rattle.std.specs.Prelude.{ℕ, List, [], ◌∷◌, ◌++◌, map, ◌≡◌, ◌≤◌, string_bytes}
use Rattle.std.specs.Float.{binary32, binary64}
use Rattle.std.specs.Str.{chars}
use Rattle.interpolator_render.specs.Views.{Shown, signed_number, unsigned_number, truth_value}
use Rattle.interpolator_render.specs.Views.{decimal_number, float_number, one_character, some_text, plain_text}
use Rattle.interpolator_render.specs.Views.{nothing_implemented, failure}
use Rattle.interpolator_eval.specs.Rows.{parts_to}
use Rattle.interpolator_table.specs.declared.cell.Cell.{Cell}
use Rattle.interpolator_table.specs.declared.cell.Cell.TheVariants.{Text, Plain, Signed, Unsigned}
use Rattle.interpolator_table.specs.declared.cell.Cell.TheVariants.{Truth, Decimal, Float, Float32, Character}
use Rattle.interpolator_table.specs.declared.cell.Cell.TheVariants.{NotImplemented, Failed}

-- what a cell shows, a text by its characters
abbrev pub cell_shows : Cell → Shown
cell_shows (Text text) = some_text (chars (string_bytes text))
cell_shows (Plain text) = plain_text (chars (string_bytes text))
cell_shows (Signed number bits) = signed_number number bits
cell_shows (Unsigned number) = unsigned_number number
cell_shows (Truth truth) = truth_value truth
cell_shows (Decimal units scale) = decimal_number units scale
cell_shows (Float number) = float_number binary64 number
cell_shows (Float32 number) = float_number binary32 number
cell_shows (Character c) = one_character c
cell_shows NotImplemented = nothing_implemented
cell_shows Failed = failure

-- the ends, from this place on, do not decrease, and the last is this one
abbrev pub CutTo : List ℕ → ℕ → ℕ → Type 0
CutTo [] from last = from ≡ last
CutTo (end ∷ ends) from last = (from ≤ end) × (end ≤ last) × CutTo ends end last

-- what rows show whose cells are these, and which end there
abbrev pub rows_at : List Cell → List ℕ → List (List Shown)
rows_at cells ends = parts_to (map cell_shows cells) 0 ends

-- the cells of all rows, in order
abbrev pub cells_of : {A : Type 0} → List (List A) → List A
cells_of [] = []
cells_of (row ∷ rows) = row ++ cells_of rows
