use Rattle.std.proofs.Common.{chars, ◌≡◌, ◌∷◌, map}
use Rattle.interpolator_syntax.specs.Places.{outermost}
use Rattle.interpolator_eval.specs.{Meaning.Environments.environment, Meaning.Meanings.means}
use Rattle.interpolator_escapes.specs.{Formats.escaped_shows, Languages.read_by, Records.fields_of}
use Rattle.interpolator_escapes.specs.{Records.item_text, declared.escape.Escape.TheVariants.Csv}
use Rattle.interpolator_laws.proofs.EscapedLemmas.{made_text, row_meant}
use Rattle.interpolator_laws.proofs.escaped.a_list_is_a_record.Goals as goal

pub returns : goal.returns
returns g c = λ found item others same text finds has.
    let escape = c.args.page.now.escape in
    let shows = g.C.Object.Value.shows in
    let e = environment (g.C.Context.finds c.args.context.now) in
    let cs = chars c.args.page.now.text in
    made_text (λ ds. fields_of (read_by Csv ds) ≡ map (item_text shows) (item ∷ others))
    (means (escaped_shows escape shows) e (outermost cs))
    c.format.result c.format.ensures.formats
    (row_meant shows e
    (λ ds. fields_of (read_by Csv ds) ≡ map (item_text shows) (item ∷ others)) escape cs same text
    (c.a_list_is_a_record.ensures e found item others finds has))
