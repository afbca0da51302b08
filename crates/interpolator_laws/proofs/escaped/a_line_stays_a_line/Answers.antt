use Rattle.std.proofs.Common.{chars, ◌≡◌, [], filter}
use Rattle.interpolator_syntax.specs.Places.{outermost}
use Rattle.interpolator_eval.specs.{Meaning.Environments.environment, Meaning.Meanings.means}
use Rattle.interpolator_escapes.specs.{Escapes.is_control, Formats.escaped_shows}
use Rattle.interpolator_laws.proofs.EscapedLemmas.{made_text, line_meant}
use Rattle.interpolator_laws.proofs.escaped.a_line_stays_a_line.Goals as goal

pub returns : goal.returns
returns g c = λ same none.
    let escape = c.args.page.now.escape in
    let shows = g.C.Object.Value.shows in
    let e = environment (g.C.Context.finds c.args.context.now) in
    let cs = chars c.args.page.now.text in
    made_text (λ ds. filter is_control ds ≡ [])
    (means (escaped_shows escape shows) e (outermost cs))
    c.format.result c.format.ensures.formats
    (line_meant shows e (λ ds. filter is_control ds ≡ []) escape cs same c.template.ensures.stand
    (λ stands. c.a_line_stays_a_line.ensures e (outermost cs) stands none))
