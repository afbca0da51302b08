use Rattle.std.proofs.Common.{arith}
use Rattle.interpolator_render.proofs.LayoutLemmas.{refuses_in_first, refuses_in_second}
use Rattle.interpolator_render.proofs.copies.put_before.Goals as goal

pub returns-in-Err : goal.returns-in-Err
returns-in-Err g c = refuses_in_first _ _ _ _ _ c.in-Err.ensures

pub returns-in-Err-put_sliced : goal.returns-in-Err-put_sliced
returns-in-Err-put_sliced g c = refuses_in_second _ _ _ _ _ c.byte_len.result _ _ (grind arith)
    c.saturating_add-taken.ensures c.in_default.ensures c.in-Err-put_sliced.ensures
