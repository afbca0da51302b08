use Rattle.std.proofs.Common.{refl}
use Rattle.interpolator_syntax.specs.SpecTexts.{spec_from_sign, spec_after}
use Rattle.interpolator_syntax.specs.{Arguments.argument_at, Groups.group_at, Lists.list_at}
use Rattle.interpolator_syntax.specs.{Pieces.argument_from, Ranges.range_at, Tokens.first_token}
use Rattle.interpolator_syntax.specs.Nodes.{nodes}
use Rattle.interpolator.proofs.LongNestingLemmas.{deep_is_long}
use Rattle.interpolator_laws.proofs.depths.a_deep_format_is_long.Goals as goal

pub returns-clause-long : goal.returns-clause-long
returns-clause-long c = deep_is_long

pub returns-clause-depth : goal.returns-clause-depth
unfolding nodes first_token argument_from argument_at spec_after spec_from_sign list_at range_at group_at
returns-clause-depth c = refl
