use Rattle.std.proofs.Common.{◌≡◌, arith, ◌∷◌}
use Rattle.std.specs.Str.{chars}
use Rattle.std.proofs.lemmas.Bool.Decides.{nat_tests}
use Rattle.interpolator_escapes.specs.Escapes.{control_escape, two_digits}
use Rattle.interpolator_escapes.proofs.laid.lay_control.Goals as goal

pub returns-then-c-lt256-clause-text : goal.returns-then-c-lt256-clause-text
unfolding chars
returns-then-c-lt256-clause-text c =
    let e : control_escape c.args.c ≡ 92 ∷ 120 ∷ two_digits c.args.c = grind (arith, nat_tests) in
    rw e c.lay_two_digits.ensures.text
