use Rattle.interpolator.proofs.ExcerptLemmas.{part_of_line}
use Rattle.interpolator_laws.proofs.excerpts.an_excerpt_is_a_part_of_its_line.Goals as goal

pub returns : goal.returns
returns c = part_of_line
