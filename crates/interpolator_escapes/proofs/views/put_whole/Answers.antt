use Rattle.std.proofs.Common.{[], ◌∷◌, refl}
use Rattle.std.specs.Str.{chars}
use Rattle.interpolator_render.specs.Views.{shown_by}
use Rattle.interpolator_escapes.specs.Wholes.{json_string}
use Rattle.interpolator_escapes.proofs.WholeLemmas.{whole_shown}
use Rattle.interpolator_escapes.proofs.views.put_whole.Goals as goal

pub returns-in-Text : goal.returns-in-Text
returns-in-Text g c =
    rw (whole_shown (shown_by c.args.view) c.args.wanted c.args.spec.now
    (json_string (chars c.in-Text.text.now)) (rw c.in-Text.is refl)) c.put_string.ensures

pub returns-in-Plain : goal.returns-in-Plain
returns-in-Plain g c =
    rw (whole_shown (shown_by c.args.view) c.args.wanted c.args.spec.now
    (json_string (chars c.in-Plain.text.now)) (rw c.in-Plain.is refl))
    c.put_string-in-Plain.ensures

pub returns-in-Character : goal.returns-in-Character
returns-in-Character g c =
    rw (whole_shown (shown_by c.args.view) c.args.wanted c.args.spec.now
    (json_string (c.in-Character.c ∷ [])) (rw c.in-Character.is refl)) c.put_character.ensures
