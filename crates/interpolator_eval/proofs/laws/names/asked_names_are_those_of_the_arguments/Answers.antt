use Rattle.std.proofs.Common.{refl}
use Rattle.interpolator_syntax.specs.SpecTexts.{spec_from_sign, spec_after}
use Rattle.interpolator_syntax.specs.{Arguments.argument_at, Groups.group_at, Lists.list_at}
use Rattle.interpolator_syntax.specs.{Nodes.nodes, Pieces.argument_from, Tokens.first_token}
use Rattle.interpolator_syntax.specs.Ranges.{range_at}
use Rattle.interpolator_eval.proofs.MeaningLemmas.AskedGrammarLemmas.{names_asked, names_only}
use Rattle.interpolator_eval.proofs.laws.names.asked_names_are_those_of_the_arguments.Goals as goal

pub returns : goal.returns
unfolding nodes first_token argument_from argument_at spec_after spec_from_sign list_at range_at group_at
returns c = record { is = names_asked; only = names_only; value = refl; order = refl }
