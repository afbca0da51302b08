use Rattle.std.proofs.{Common.false, Common.arith, lemmas.Str.IsAscii-drop}
use Rattle.interpolator_digits.proofs.DigitLemmas.{digits_ascii}
use Rattle.interpolator_render.proofs.DigitBufferLemmas.{row_grows, IsBuffered-grows}
use Rattle.interpolator_render.proofs.digit_buffer.DigitBuffer.put_low_decimal.Goals as goal

pub invariant_of-self : goal.invariant_of-self
invariant_of-self c = let put = c.write_low_decimal-start.ensures in
    IsBuffered-grows _ _ _ _ _ _ _
    (IsAscii-drop _ 1 (digits_ascii 10 false c.args.n (omega arith) (omega arith))) put.begins
    put.front put.written c.self.invariant

pub returns-clause-grown : goal.returns-clause-grown
returns-clause-grown c = let put = c.write_low_decimal-start.ensures in
    row_grows _ _ _ _ _ _ _ _ c.self.invariant.ordered put.begins put.written c.self.view_is
