use Rattle.std.proofs.Common.{refl}
use Rattle.interpolator_syntax.specs.Groups.{inside}
use Rattle.interpolator_laws.proofs.ContiguousLemmas.{nodes_contiguous}
use Rattle.interpolator_laws.proofs.templates.nodes_stand_one_after_the_other.Goals as goal

pub returns : goal.returns
returns c = record { places = nodes_contiguous; groups = λ g. (refl, nodes_contiguous (inside g)) }
