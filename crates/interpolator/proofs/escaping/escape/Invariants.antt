use Rattle.std.proofs.Common.{◌≡◌, ◌++◌, length}
use denote.{Text.Utf8, Shadow.shadow}
use Rattle.std.specs.Str.{chars}
use Rattle.interpolator.specs.Escaping.{braces_doubled}
use Rattle.interpolator.proofs.escaping.escape.Given as goal

-- what was appended, and then what is left with its braces doubled, is the text with its braces
-- doubled
abbrev pub invariant-loop-rest : goal.invariant-loop-rest
invariant-loop-rest l =
    shadow (Utf8 l.rest)
    × (l.out.text ++ braces_doubled (chars l.rest) ≡ braces_doubled (chars l.text))

abbrev pub decreases-loop-rest : goal.decreases-loop-rest
decreases-loop-rest l = length l.rest
