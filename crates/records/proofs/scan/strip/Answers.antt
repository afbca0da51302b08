use Rattle.std.proofs.{Common.arith, lemmas.Grind.common_steps}
use Rattle.records.proofs.ScanLemmas.{boundary_after}
use Rattle.records.proofs.scan.strip.Goals as goal

pub split_at-requires : goal.split_at-requires
split_at-requires c = grind (arith, common_steps, boundary_after)
