use Rattle.std.proofs.Common.{arith, length, ap}
use Rattle.interpolator_table.proofs.TableLemmas.{parts_count}
use Rattle.interpolator_table.proofs.table.Table.len.Goals as goal

pub returns : goal.returns
returns c = grind (arith, parts_count, ap length c.self.view_is)
