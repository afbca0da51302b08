use Rattle.std.proofs.Common.{refl}
use Rattle.interpolator_render.proofs.LayoutLemmas.{refuses_in_first, refuses_in_second}
use Rattle.interpolator_render.proofs.copies.put_amid.Goals as goal

pub returns-in-Err : goal.returns-in-Err
returns-in-Err g c = refuses_in_first _ _ _ _ _ c.in-Err.ensures

pub returns-in-Err-put_before : goal.returns-in-Err-put_before
returns-in-Err-put_before g c = refuses_in_second _ _ _ _ _ _ _ _ refl c.refused_after.ensures
    c.in_default.ensures c.in-Err-put_before.ensures
