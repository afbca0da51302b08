use Rattle.std.proofs.Common.{arith}
use Rattle.interpolator_escapes.proofs.SearchLemmas.{plain_more}
use Rattle.interpolator_escapes.proofs.search.past_wide_blocks.Goals as goal

pub loop-end-preserved : goal.loop-end-preserved
loop-end-preserved g c = (
  omega (arith, c.loop-end-test.true),
  plain_more c.args.escape c.args.bytes.now c.loop-end.end g.row.N (omega (arith, c.loop-end-test.true))
      c.loop-end.invariant.1 (c.are_surely_plain.ensures (grind arith)),
)
