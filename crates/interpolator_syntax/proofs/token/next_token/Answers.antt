use Rattle.std.proofs.{Common.arith, lemmas.Grind.common_steps}
use Rattle.interpolator_syntax.proofs.StripLemmas.{literals_scanned}
use Rattle.interpolator_syntax.proofs.token.next_token.Goals as goal

pub returns-clause-token : goal.returns-clause-token
returns-clause-token c = grind (arith, common_steps, literals_scanned)
