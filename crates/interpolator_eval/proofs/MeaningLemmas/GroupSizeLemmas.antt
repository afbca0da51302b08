-- How many characters the groups of a list have.
use Rattle.std.proofs.Common.{◌≡◌, arith, ℕ, ◌≤◌, max, length, Option, None, Some, Ok}
use Rattle.interpolator_syntax.specs.SpecTexts.{Kind, of_value, of_list}
use Rattle.interpolator_syntax.specs.Arguments.{Argument, argument_at}
use Rattle.interpolator_syntax.specs.{Places.At, Groups.Group, Lists.ListRequest}
use Rattle.interpolator_syntax.proofs.SizeLemmas.{GroupIfIn, KindIn, argument_in}

-- those of a group; none if there is no group
abbrev pub group_size : Option Group → ℕ
group_size None = 0
group_size (Some g) = length g.text

-- those of the longer of a list's groups
abbrev pub list_size : ListRequest → ℕ
list_size l = max (group_size l.item) (group_size l.join)

-- those of the longer group of a kind
abbrev pub kind_size : Kind → ℕ
kind_size (of_value t) = 0
kind_size (of_list l) = list_size l

group_within : (g : Option Group) (a : At) → GroupIfIn g a → group_size g ≤ length a.text
group_within g a h = grind arith

kind_within : (kind : Kind) (a : At) → KindIn kind a → kind_size kind ≤ length a.text
kind_within kind a h = grind (arith, group_within)

-- no group has more characters than the text after the argument's brace
pub groups_within : (a : At) (x : Argument) (q : At) → argument_at a ≡ Ok (x, q)
    → kind_size x.kind ≤ length a.text
groups_within a x q h = grind (arith, kind_within, argument_in)
