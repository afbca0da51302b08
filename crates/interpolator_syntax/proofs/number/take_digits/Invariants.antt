use Rattle.std.proofs.Common.{◌≡◌, ◌≤◌, ◌+◌, length}
use Rattle.interpolator_syntax.specs.{Places.at, Places.after, Classes.front_of, Classes.in_class}
use Rattle.interpolator_syntax.specs.{Numbers.digits_after, declared.class.Class.TheVariants.Number}
use Rattle.interpolator_syntax.proofs.number.take_digits.Given as goal

-- the run that is left, after the digits that were read, is the whole
abbrev pub invariant-loop-digit : goal.invariant-loop-digit
invariant-loop-digit l =
    (l.number ≤ l.most)
    × (digits_after (l.most + 1) l.overflow l.number (front_of (in_class Number) (at l.here).text)
    ≡ digits_after (l.most + 1) l.overflow l.n (front_of (in_class Number) (at l.fn.here).text))
    × (after (in_class Number) (at l.here) ≡ after (in_class Number) (at l.fn.here))

abbrev pub decreases-loop-digit : goal.decreases-loop-digit
decreases-loop-digit l = length (at l.here).text
