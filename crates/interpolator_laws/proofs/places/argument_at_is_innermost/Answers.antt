use Rattle.std.proofs.Common.{refl}
use Rattle.interpolator_syntax.specs.SpecTexts.{spec_from_sign, spec_after}
use Rattle.interpolator_syntax.specs.{Arguments.argument_at, Groups.group_at, Lists.list_at}
use Rattle.interpolator_syntax.specs.{Pieces.argument_from, Ranges.range_at, Tokens.first_token}
use Rattle.interpolator_syntax.specs.Nodes.{nodes}
use Rattle.interpolator_laws.proofs.InnermostLemmas.{innermost_found, none_found}
use Rattle.interpolator_laws.proofs.places.argument_at_is_innermost.Goals as goal

pub returns : goal.returns
unfolding nodes first_token argument_from argument_at spec_after spec_from_sign list_at range_at group_at
returns c = record {
  found = innermost_found;
  none = none_found;
  inner = refl;
  outer = refl;
  outside = refl;
}
