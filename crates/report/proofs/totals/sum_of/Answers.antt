use Rattle.std.proofs.Common.{arith}
use Rattle.report.proofs.PlaceLemmas.{below_greatest}
use Rattle.report.proofs.totals.sum_of.Goals as goal

pub places_of-requires : goal.places_of-requires
places_of-requires c =
    record { scales = λ k d h. omega (arith, below_greatest c.args.numbers.now k d h) }
