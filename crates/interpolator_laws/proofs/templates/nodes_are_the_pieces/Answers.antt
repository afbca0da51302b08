use Rattle.std.proofs.Common.{refl, sym}
use Rattle.interpolator_syntax.specs.SpecTexts.{spec_from_sign, spec_after}
use Rattle.interpolator_syntax.specs.{Arguments.argument_at, Groups.group_at, Lists.list_at}
use Rattle.interpolator_syntax.specs.{Pieces.argument_from, Ranges.range_at, Tokens.first_token}
use Rattle.interpolator_syntax.specs.Nodes.{nodes}
use Rattle.interpolator_syntax.proofs.SplitLemmas.{literals_as_one, pieces_again}
use Rattle.interpolator_laws.proofs.templates.nodes_are_the_pieces.Goals as goal

pub returns : goal.returns
unfolding nodes first_token argument_from argument_at spec_after spec_from_sign list_at range_at group_at
returns c = record {
  merged = λ a. sym (literals_as_one a);
  split = pieces_again;
  value = refl;
  depth = refl;
}
