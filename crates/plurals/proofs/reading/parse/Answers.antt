use Rattle.plurals.proofs.RuleLemmas.{read_by, said_by}
use Rattle.plurals.proofs.reading.parse.Goals as goal

pub returns-clause-found : goal.returns-clause-found
returns-clause-found c = said_by c.args.rule.now c.read.result c.read.ensures

pub returns-clause-only : goal.returns-clause-only
returns-clause-only c = read_by c.args.rule.now c.read.result c.read.ensures
