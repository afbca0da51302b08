use Rattle.std.proofs.Common.{chars, ◌≡◌}
use Rattle.interpolator_syntax.specs.Places.{outermost}
use Rattle.interpolator_eval.specs.{Meaning.Environments.environment, Meaning.Meanings.means}
use Rattle.interpolator_escapes.specs.Languages.{read_by, read_parts_by}
use Rattle.interpolator_escapes.specs.{FormatParts.parts_by, Formats.escaped_shows}
use Rattle.interpolator_escapes.proofs.LanguageLemmas.{stands_in}
use Rattle.interpolator_laws.proofs.EscapedLemmas.{made_text}
use Rattle.interpolator_laws.proofs.escaped.values_come_back.Goals as goal

pub returns : goal.returns
returns g c = λ paired.
    let escape = c.args.page.now.escape in
    let a = outermost (chars c.args.page.now.text) in
    let e = environment (g.C.Context.finds c.args.context.now) in
    made_text
    (λ cs. read_by escape cs
    ≡ read_parts_by escape (parts_by escape g.C.Object.Value.shows e a))
    (means (escaped_shows escape g.C.Object.Value.shows) e a)
    c.format.result c.format.ensures.formats
    (c.values_of_formats_come_back.ensures.read escape e a
    (stands_in escape a c.template.ensures.stand paired))
