use Rattle.std.proofs.Common.{chars}
use Rattle.interpolator_syntax.specs.Places.{outermost}
use Rattle.interpolator_eval.specs.{Meaning.Environments.environment, Meaning.Meanings.means}
use Rattle.interpolator_escapes.specs.Formats.{escaped_shows}
use Rattle.interpolator_laws.proofs.EscapedLemmas.{same_answer}
use Rattle.interpolator_laws.proofs.escaped.an_escape_makes_no_fault.Goals as goal

pub returns : goal.returns
returns g c =
    let escape = c.args.page.now.escape in
    let shows = g.C.Object.Value.shows in
    let e = environment (g.C.Context.finds c.args.context.now) in
    let a = outermost (chars c.args.page.now.text) in
    same_answer (means shows e a) (means (escaped_shows escape shows) e a)
    c.format_template-plain.result c.format_page-escaped.result (c.escapes_make_no_fault.ensures escape e a)
    (rw c.template.ensures.template at c.format_template-plain.ensures.formats)
    c.format_page-escaped.ensures.formats
