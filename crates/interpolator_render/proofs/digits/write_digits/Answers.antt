use Rattle.std.proofs.Common.{arith}
use Rattle.interpolator_digits.proofs.DigitLemmas.{digits_ascii, low_count, text_fits, text_written}
use Rattle.interpolator_render.proofs.digits.write_digits.Goals as goal

pub write_wide-many-requires-clause-room : goal.write_wide-many-requires-clause-room
write_wide-many-requires-clause-room c = grind (arith, text_fits)

pub write_low-few-requires-clause-room : goal.write_low-few-requires-clause-room
write_low-few-requires-clause-room c = grind (arith, text_fits)

pub overflow_sub-out : goal.overflow_sub-out
overflow_sub-out c = grind (arith, text_fits, low_count)

pub bounds-out-few : goal.bounds-out-few
bounds-out-few c = grind (arith, text_fits, low_count)

pub overflow_sub-result : goal.overflow_sub-result
overflow_sub-result c = grind (arith, text_fits, low_count)

pub returns-clause-written : goal.returns-clause-written
returns-clause-written c = grind (arith, text_fits, low_count, text_written)

pub returns-clause-ascii : goal.returns-clause-ascii
returns-clause-ascii c = rw (returns-clause-written c)
    (digits_ascii c.args.base c.args.upper c.args.n c.requires.lowest c.requires.highest)
