use Rattle.std.proofs.{Common.arith, lemmas.List.length-replicate}
use Rattle.interpolator_render.proofs.DigitBufferLemmas.{row_grows, copies_in_front}
use Rattle.interpolator_render.proofs.digit_buffer.DigitBuffer.pad_before.Goals as goal

pub returns : goal.returns
returns c =
    let row = c.self.inside in
    let front = copies_in_front row.bytes row.fill c.args.count row.start row.end (grind arith)
    (grind arith) c.self.invariant in
    let grown = row_grows row.bytes row.bytes _ row.fill _ row.start row.end _
    c.self.invariant.ordered (grind (arith, length-replicate)) front c.self.view_is in grind arith
