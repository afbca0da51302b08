use Rattle.std.proofs.Common.{arith}
use Rattle.records.proofs.ScanLemmas.{one_more_blank, utf8_after}
use Rattle.records.proofs.scan.skip_blanks.Goals as goal

pub loop-after-preserved : goal.loop-after-preserved
loop-after-preserved c = (
  utf8_after c.loop-after.rest.now _ 32 c.loop-after.invariant.0 c.in-Some.ensures.cases
      (omega arith),
  one_more_blank c.args.text.now _ _ c.loop-after.invariant.1 c.in-Some.ensures.cases,
)
