use Rattle.std.proofs.Common.{◌≡◌, refl, ap, arith, length}
use Rattle.interpolator_syntax.specs.Pieces.{pieces, argument_from}
use Rattle.interpolator_syntax.specs.{Arguments.argument_at, SpecTexts.spec_after}
use Rattle.interpolator.proofs.laws.parts.seams_are_real.Goals as goal

pub returns : goal.returns
unfolding pieces argument_from argument_at spec_after
returns c = record {
  braces_seam = refl;
  braces = λ e. let n : 1 ≡ 2 = ap length e in omega (arith, n);
}
