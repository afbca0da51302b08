use Rattle.std.proofs.Common.{rules, ◌<◌, get_or}
use Rattle.interpolator_escapes.proofs.DoubtLemmas.{one_more}
use Rattle.interpolator_escapes.proofs.search.are_surely_plain.Goals as goal

pub loop-byte-preserved : goal.loop-byte-preserved
loop-byte-preserved c h =
    let low : get_or c.args.bytes.now c.loop-byte.byte-index 0 < 256 = search rules in
    one_more c.args.escape c.args.bytes.now c.loop-byte.byte-index c.loop-byte.most c.doubt.result
    c.max-most.result low c.doubt.ensures c.max-most.ensures c.loop-byte.invariant h
