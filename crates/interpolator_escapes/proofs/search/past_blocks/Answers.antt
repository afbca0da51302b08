use Rattle.std.proofs.Common.{arith}
use Rattle.interpolator_escapes.proofs.MarkLemmas.{front_plain_past, whole_plain}
use Rattle.interpolator_escapes.proofs.search.past_blocks.Goals as goal

pub returns-then-front-lt-BLOCK-clause-plain : goal.returns-then-front-lt-BLOCK-clause-plain
returns-then-front-lt-BLOCK-clause-plain c =
    front_plain_past c.args.escape c.args.bytes.now c.loop-end.end _
    (omega (arith, c.loop-end-test.true)) c.front_of_block-front.ensures c.loop-end.invariant.1

pub loop-end-preserved : goal.loop-end-preserved
loop-end-preserved c = (
  omega (arith, c.loop-end-test.true),
  whole_plain c.args.escape c.args.bytes.now c.loop-end.end _
      (omega (arith, c.loop-end-test.true)) c.front_of_block-front.ensures
      (omega (arith, c.if-front-lt-BLOCK.false)) c.loop-end.invariant.1,
)
