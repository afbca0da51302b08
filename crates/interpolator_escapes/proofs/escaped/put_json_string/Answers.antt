use Rattle.std.proofs.Common.{[], ◌∷◌}
use Rattle.std.proofs.lemmas.Result.{err_from_is_err_and}
use Rattle.interpolator_render.proofs.LayoutLemmas.{stops_in_first}
use Rattle.interpolator_escapes.proofs.escaped.put_json_string.Goals as goal

pub returns-in_err-put_char : goal.returns-in_err-put_char
returns-in_err-put_char g c =
    let p = err_from_is_err_and c.from_residual.result c.from_residual.ensures.1 in
    rw p.1 (stops_in_first _ _ (34 ∷ []) _ c.in_err-put_char.ensures.part)
