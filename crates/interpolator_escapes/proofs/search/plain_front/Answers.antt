use Rattle.std.proofs.Common.{arith}
use Rattle.interpolator_escapes.proofs.MarkLemmas.{near_plain, near_whole, front_stops}
use Rattle.interpolator_escapes.proofs.search.plain_front.Goals as goal

pub returns-then-near-lt-BLOCK-clause-plain : goal.returns-then-near-lt-BLOCK-clause-plain
returns-then-near-lt-BLOCK-clause-plain c =
    near_plain c.args.escape c.args.bytes.now _ (omega (arith, c.if-bytes-lt-BLOCK.false))
    c.front_of_block-near.ensures

pub returns-then-near-lt-BLOCK-clause-begins : goal.returns-then-near-lt-BLOCK-clause-begins
returns-then-near-lt-BLOCK-clause-begins c less =
    front_stops c.args.escape c.args.bytes.now _ (omega (arith, c.if-bytes-lt-BLOCK.false))
    c.front_of_block-near.ensures (omega (arith, c.if-near-lt-BLOCK.true))

pub far_front-requires-clause-plain : goal.far_front-requires-clause-plain
far_front-requires-clause-plain c =
    near_whole c.args.escape c.args.bytes.now _ (omega (arith, c.if-bytes-lt-BLOCK.false))
    c.front_of_block-near.ensures (omega (arith, c.if-near-lt-BLOCK.false))
