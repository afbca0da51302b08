use Rattle.std.proofs.Common.{refl}
use Rattle.interpolator_syntax.specs.{Arguments.argument_at, Groups.group_at, Lists.list_at}
use Rattle.interpolator_syntax.specs.{Pieces.pieces, Pieces.argument_from, Ranges.range_at}
use Rattle.interpolator_syntax.specs.{SpecTexts.spec_from_sign, SpecTexts.spec_after}
use Rattle.interpolator_pieces.specs.AllArguments.{arguments_of}
use Rattle.interpolator_pieces.proofs.AllArgumentLemmas.{arguments_pieces}
use Rattle.interpolator_laws.proofs.all_arguments.arguments_are_those_of_the_pieces.Goals as goal

pub returns : goal.returns
unfolding arguments_of pieces argument_from argument_at spec_after spec_from_sign list_at range_at group_at
returns c = record { pieces = arguments_pieces; value = refl; places = refl; broken = refl }
