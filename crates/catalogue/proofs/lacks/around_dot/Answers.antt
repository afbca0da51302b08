use Rattle.std.proofs.Common.{arith}
use Rattle.catalogue.proofs.DotLemmas.{split_at_last}
use Rattle.catalogue.proofs.lacks.around_dot.Goals as goal

pub returns : goal.returns
returns c = split_at_last 46 c.args.key.now _ c.rsplit_once.ensures.cases (omega arith)
