use Rattle.std.proofs.lemmas.Result.{err_from_is_err_and}
use Rattle.interpolator_render.proofs.LayoutLemmas.{stops_in_first, writes_second}
use Rattle.interpolator_escapes.proofs.RoomLemmas.{found_whole}
use Rattle.interpolator_escapes.proofs.escaped.put_runs.Goals as goal

pub returns-in_err-put_text-in-Some : goal.returns-in_err-put_text-in-Some
returns-in_err-put_text-in-Some g c =
    let p = err_from_is_err_and c.from_residual.result c.from_residual.ensures.1 in
    let parts = c.in-Some.ensures.parts in
    let whole = found_whole c.args.escape c.args.text.now _ _ _ parts.0 parts.1 in
    rw (p.1, whole) (stops_in_first _ _ _ _ c.in_err-put_text-in-Some.ensures.part)

pub returns-in_ok-put_text-in-Some : goal.returns-in_ok-put_text-in-Some
returns-in_ok-put_text-in-Some g c =
    let parts = c.in-Some.ensures.parts in
    let whole = found_whole c.args.escape c.args.text.now _ _ _ parts.0 parts.1 in
    rw whole (writes_second _ _ _ _ _ _ c.in_ok-put_text-in-Some.ensures c.put_from.ensures)
