use Rattle.std.proofs.Common.{◌∷◌, []}
use Rattle.std.proofs.lemmas.Result.{err_from_is_err_and}
use Rattle.interpolator_render.proofs.LayoutLemmas.{stops_in_first, writes_second, writes_from_puts}
use Rattle.interpolator_render.proofs.quoting.put_quoted.Goals as goal

pub returns-in_err-put_char : goal.returns-in_err-put_char
returns-in_err-put_char g c = let p = err_from_is_err_and c.from_residual.result
    c.from_residual.ensures.1 in
    rw p.1 (stops_in_first _ _ (c.args.quote ∷ []) _ c.in_err-put_char.ensures.part)

pub returns : goal.returns
returns g c = writes_second _ _ _ (c.args.quote ∷ []) _ c.put_char-2.result c.in_ok-put_char.ensures
    (writes_second _ _ _ _ _ c.put_char-2.result c.in_ok-put_inside.ensures
    (writes_from_puts _ _ _ c.put_char-2.result c.put_char-2.ensures))
