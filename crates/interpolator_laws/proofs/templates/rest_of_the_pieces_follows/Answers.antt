use Rattle.std.proofs.Common.{refl}
use Rattle.interpolator_syntax.specs.{Arguments.argument_at, Pieces.argument_from}
use Rattle.interpolator_syntax.specs.{SpecTexts.spec_after, Tokens.first_token, Nodes.nodes}
use Rattle.interpolator_eval.proofs.MeaningLemmas.MeaningLemmas.{forest_joined}
use Rattle.interpolator_pieces.proofs.WholePieceLemmas.{rest_fits}
use Rattle.interpolator_laws.proofs.templates.rest_of_the_pieces_follows.Goals as goal

pub returns-clause-fits : goal.returns-clause-fits
returns-clause-fits g c = rest_fits

pub returns-clause-means : goal.returns-clause-means
returns-clause-means g c = λ e xs ys. forest_joined g.V.Value.shows e xs ys

pub returns-clause-value : goal.returns-clause-value
unfolding nodes first_token argument_from argument_at spec_after
returns-clause-value g c = λ e. refl
