use Rattle.std.proofs.Common.{◌≡◌, ◌∙◌, ap, Some, None, if◌then◌else◌}
use Rattle.interpolator_render.specs.Views.{shown_by}
use Rattle.interpolator_escapes.specs.Wholes.{json_null, whole_text}
use Rattle.interpolator_escapes.proofs.WholeLemmas.{whole_shown}
use Rattle.interpolator_escapes.proofs.views.put_number.Goals as goal

pub returns : goal.returns
returns g c =
    let null : whole_text (shown_by c.args.view) ≡ Some json_null =
    c.requires.float ∙ ap (λ b. if b then None else Some json_null) c.if-is_finite.false in
    rw (whole_shown (shown_by c.args.view) c.args.wanted c.args.spec.now json_null null)
    c.put_null.ensures
