use Rattle.std.proofs.{Common.arith, lemmas.Grind.common_steps}
use Rattle.interpolator_syntax.proofs.FrontLemmas.{rest_boundary}
use Rattle.interpolator_syntax.proofs.GroupLemmas.{rest_of_chars, rest_short, chars_of_cut}
use Rattle.interpolator_syntax.proofs.bracket.text_before.Goals as goal

pub overflow_sub-text : goal.overflow_sub-text
overflow_sub-text c = grind (arith, common_steps, rest_short, rest_of_chars)

pub split_at-requires : goal.split_at-requires
split_at-requires c = grind (arith, common_steps, rest_boundary, rest_of_chars)

pub returns-clause-chars : goal.returns-clause-chars
returns-clause-chars c = grind (arith, common_steps, chars_of_cut, rest_of_chars)
