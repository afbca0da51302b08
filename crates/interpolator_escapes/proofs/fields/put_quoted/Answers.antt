use Rattle.std.proofs.Common.{[], ◌∷◌}
use Rattle.std.proofs.lemmas.Result.{err_from_is_err_and}
use Rattle.interpolator_render.proofs.LayoutLemmas.{stops_in_first}
use Rattle.interpolator_escapes.proofs.fields.put_quoted.Goals as goal

pub returns-in_err-put_quote : goal.returns-in_err-put_quote
returns-in_err-put_quote g c =
    let p = err_from_is_err_and c.from_residual.result c.from_residual.ensures.1 in
    rw p.1 (stops_in_first _ _ (34 ∷ []) _ c.in_err-put_quote.ensures.part)
