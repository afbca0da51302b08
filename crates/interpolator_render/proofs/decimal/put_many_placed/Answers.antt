use Rattle.std.proofs.Common.{length, false, arith, ap, length-append}
use Rattle.interpolator_digits.specs.Digits.{digit_text}
use Rattle.interpolator_render.specs.DigitBuffers.{Buffered}
use Rattle.interpolator_render.proofs.DecimalRowLemmas.{nothing_placed, part_digits, placed_pieces}
use Rattle.interpolator_render.proofs.decimal.put_many_placed.Goals as goal

pub returns-then-places-eq0 : goal.returns-then-places-eq0
returns-then-places-eq0 c = grind (arith, nothing_placed)

pub put_decimal-requires : goal.put_decimal-requires
put_decimal-requires c = grind (arith, part_digits)

pub overflow_sub-count : goal.overflow_sub-count
overflow_sub-count c = grind (arith, length-append)

pub overflow_sub-missing : goal.overflow_sub-missing
overflow_sub-missing c = grind (arith, length-append, part_digits)

pub put_zeros-requires : goal.put_zeros-requires
put_zeros-requires c = grind (arith, length-append, part_digits)

pub returns : goal.returns
returns c =
    let text = ap (λ (r : Buffered). length r.text) c.put_decimal.ensures in
    let sum = length-append (digit_text 10 false c.args.part) c.args.buffer.now.text in
    placed_pieces c.args.places c.args.part _ c.args.buffer.now _ _ (omega arith)
    c.put_decimal.ensures c.put_zeros.ensures (omega arith)
