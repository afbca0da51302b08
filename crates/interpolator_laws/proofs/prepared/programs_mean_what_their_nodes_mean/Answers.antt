use lib.Utf8.{encode}
use Rattle.std.proofs.Common.{refl}
use Rattle.interpolator_syntax.specs.SpecTexts.{spec_from_sign, spec_after}
use Rattle.interpolator_syntax.specs.{Arguments.argument_at, Pieces.argument_from, Nodes.nodes}
use Rattle.interpolator_syntax.specs.Tokens.{first_token}
use Rattle.interpolator_prepared.proofs.ProgramLemmas.{program_means}
use Rattle.interpolator_laws.proofs.prepared.programs_mean_what_their_nodes_mean.Goals as goal

pub returns-clause-program : goal.returns-clause-program
returns-clause-program g c names value_at reached xs =
    program_means g.V.Value.shows names value_at reached xs

pub returns-clause-value : goal.returns-clause-value
unfolding nodes first_token argument_from argument_at spec_after spec_from_sign encode
returns-clause-value g c = refl
