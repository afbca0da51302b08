-- What stands before the `=` of a word: a name, with a kind of value.
use Rattle.std.specs.Prelude.{◌-◌, ℕ, List, codes, eqb, length, take, if◌then◌else◌, Option, None}
use Rattle.std.specs.Prelude.{Some}
use Rattle.std.specs.List.{ends_with}
use Rattle.words.specs.{declared.kinds.Declaration.Declaration, declared.kinds.Kind.Kind}
use Rattle.words.specs.declared.kinds.Kind.TheVariants as kinds

-- a name and the kind of value under it, borrows aside
abbrev pub as_declaration : Declaration → List ℕ × Kind
as_declaration declared = (declared.name.now, declared.kind)

-- a text without an ending, if it ends so
abbrev pub without : (ending whole : List ℕ) → Option (List ℕ)
without ending whole =
    if ends_with eqb whole ending then Some (take (length whole - length ending) whole) else None

-- the name and the kind by what is before `:`, `:.`, `:~` and `[]` at the end of a text
abbrev pub by_ending : List ℕ → (number decimal float list : Option (List ℕ)) → List ℕ × Kind
by_ending whole (Some name) decimal float list = (name, kinds.Number)
by_ending whole None (Some name) float list = (name, kinds.Decimal)
by_ending whole None None (Some name) list = (name, kinds.Float)
by_ending whole None None None (Some name) = (name, kinds.List)
by_ending whole None None None None = (whole, kinds.Text)

-- the name and the kind that a text gives: `name:` of a whole number, `name:.` of a decimal,
-- `name:~` of a float, `name[]` of a list, else `name` of a text
abbrev pub declaration_of : List ℕ → List ℕ × Kind
declaration_of whole =
    by_ending whole (without (codes ":") whole) (without (codes ":.") whole)
    (without (codes ":~") whole) (without (codes "[]") whole)
