use Rattle.std.proofs.Common.{arith}
use Rattle.interpolator_eval.proofs.RowLemmas.{cut_row}
use Rattle.interpolator_eval.proofs.rows.row.Goals as goal

pub returns : goal.returns
returns g c = grind (arith, cut_row)
