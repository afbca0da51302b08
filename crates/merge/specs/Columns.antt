-- The columns of a table, which its first line names: of texts, of numbers or of floats. Texts are
-- bytes.
use Rattle.std.specs.Prelude.{ℕ, Bool, ◌-◌, List, codes, eqb, length, map, take, if◌then◌else◌}
use Rattle.std.specs.Prelude.{Option, None, Some}
use Rattle.std.specs.{List.ends_with, List.position, Str.bytes_eq, Str.trim}
use Rattle.merge.specs.{declared.columns.Column.Column, declared.columns.Kind.Kind}
use Rattle.merge.specs.declared.columns.Kind.TheVariants as kinds

-- a name and what the fields under it are, borrows aside
abbrev pub as_column : Column → List ℕ × Kind
as_column column = (column.name.now, column.kind)

-- what the fields of columns are
abbrev pub kinds_in : List Column → List Kind
kinds_in columns = map (λ column. column.kind) columns

-- the names of columns
abbrev pub names_in : List Column → List (List ℕ)
names_in columns = map (λ column. column.name.now) columns

-- a column has this name
abbrev pub is_named : (name : List ℕ) → Column → Bool
is_named name column = bytes_eq column.name.now name

-- the place of a name among others, from 0
abbrev pub column_named : List (List ℕ) → List ℕ → Option ℕ
column_named names name = position (λ other. bytes_eq other name) names

-- a text without an ending, if it ends so
abbrev pub without : (ending text : List ℕ) → Option (List ℕ)
without ending text =
    if ends_with eqb text ending then Some (take (length text - length ending) text) else None

-- a column by what is before `:` and before `:~` at the end of a text
abbrev pub column_by : List ℕ → (number float : Option (List ℕ)) → List ℕ × Kind
column_by text (Some name) float = (trim name, kinds.Number)
column_by text None (Some name) = (trim name, kinds.Float)
column_by text None None = (text, kinds.Text)

-- the column that a field of the first line names: `name:` one of numbers, `name:~` one of floats,
-- else `name` one of texts
abbrev pub column_of : List ℕ → List ℕ × Kind
column_of field =
    column_by (trim field) (without (codes ":") (trim field)) (without (codes ":~") (trim field))
