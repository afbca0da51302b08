use Rattle.std.proofs.Common.{[], ◌∷◌, refl}
use Rattle.std.specs.Str.{chars}
use Rattle.interpolator_render.specs.Views.{shown_by}
use Rattle.interpolator_escapes.specs.Records.{quoted_field}
use Rattle.interpolator_escapes.proofs.FieldLemmas.{field_shown}
use Rattle.interpolator_escapes.proofs.fields.put_field.Goals as goal

pub returns-in-Text : goal.returns-in-Text
returns-in-Text g c =
    rw (field_shown (shown_by c.args.view) c.args.wanted c.args.spec.now
    (quoted_field (chars c.in-Text.text.now)) (rw c.in-Text.is refl)) c.put_text_field.ensures

pub returns-in-Plain : goal.returns-in-Plain
returns-in-Plain g c =
    rw (field_shown (shown_by c.args.view) c.args.wanted c.args.spec.now
    (quoted_field (chars c.in-Plain.text.now)) (rw c.in-Plain.is refl))
    c.put_text_field-in-Plain.ensures

pub returns-in-Character : goal.returns-in-Character
returns-in-Character g c =
    rw (field_shown (shown_by c.args.view) c.args.wanted c.args.spec.now
    (quoted_field (c.in-Character.c ∷ [])) (rw c.in-Character.is refl))
    c.put_character_field.ensures
