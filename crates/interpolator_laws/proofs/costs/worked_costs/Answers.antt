use Rattle.std.proofs.Common.{refl}
use Rattle.interpolator_render.specs.Lengths.{most_written}
use Rattle.interpolator_syntax.specs.SpecTexts.{spec_from_sign, spec_after}
use Rattle.interpolator_syntax.specs.{Arguments.argument_at, Groups.group_at, Lists.list_at}
use Rattle.interpolator_syntax.specs.{Pieces.argument_from, Ranges.range_at, Tokens.first_token}
use Rattle.interpolator_syntax.specs.Nodes.{nodes}
use Rattle.interpolator_laws.proofs.costs.worked_costs.Goals as goal

pub returns : goal.returns
unfolding nodes first_token argument_from argument_at spec_after spec_from_sign list_at range_at group_at most_written
returns c = record {
  pieces = refl;
  traits = refl;
  joins = refl;
  ranges = refl;
  buffers = refl;
  empty = refl;
}
