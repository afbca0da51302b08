use Rattle.std.proofs.Common.{refl}
use Rattle.interpolator_syntax.specs.Pieces.{pieces, argument_from}
use Rattle.interpolator_syntax.specs.SpecTexts.{spec_from_sign, spec_after}
use Rattle.interpolator_syntax.specs.{Arguments.argument_at, Groups.group_at, Lists.list_at}
use Rattle.interpolator_syntax.specs.{Ranges.range_at, Nodes.nodes, Tokens.first_token}
use Rattle.interpolator_pieces.specs.AllArguments.{arguments_of}
use Rattle.interpolator_pieces.proofs.AllArgumentLemmas.{arguments_name}
use Rattle.interpolator_laws.proofs.all_arguments.arguments_have_the_asked_names.Goals as goal

pub returns-clause-names : goal.returns-clause-names
returns-clause-names c = arguments_name

pub returns-clause-arguments : goal.returns-clause-arguments
unfolding arguments_of pieces argument_from argument_at spec_after spec_from_sign list_at range_at group_at
returns-clause-arguments c = refl

pub returns-clause-asked : goal.returns-clause-asked
unfolding nodes first_token argument_from argument_at spec_after spec_from_sign list_at range_at group_at
returns-clause-asked c = refl
