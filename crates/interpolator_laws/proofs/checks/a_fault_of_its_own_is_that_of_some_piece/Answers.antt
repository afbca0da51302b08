use Rattle.std.proofs.Common.{refl}
use Rattle.interpolator_syntax.specs.SpecTexts.{spec_from_sign, spec_after}
use Rattle.interpolator_syntax.specs.{Arguments.argument_at, Groups.group_at, Lists.list_at}
use Rattle.interpolator_syntax.specs.{Pieces.argument_from, Ranges.range_at, Tokens.first_token}
use Rattle.interpolator_syntax.specs.Nodes.{nodes}
use Rattle.interpolator_laws.proofs.CheckLawLemmas.{text_has, none_has, first_faulty}
use Rattle.interpolator_pieces.proofs.CheckPlaceLemmas.{faults_of_text}
use Rattle.interpolator_laws.proofs.checks.a_fault_of_its_own_is_that_of_some_piece.Goals as goal

pub returns : goal.returns
unfolding nodes first_token argument_from argument_at spec_after spec_from_sign list_at range_at group_at
returns c = record {
  listed = text_has;
  first = first_faulty;
  none = none_has;
  of_text = faults_of_text;
  value = refl;
}
