use Rattle.interpolator_border.proofs.EscapedLemmas.{place_reported}
use Rattle.interpolator_border.proofs.escaping.place_and_format.Goals as goal

pub returns-in-Err : goal.returns-in-Err
returns-in-Err c =
    place_reported c.args.escape c.args.row.fields.now c.args.row.items.now c.args.text.now
    c.args.room.now c.reported_place.new.room c.reported_place.result c.in-Err.error c.utf8.text
    c.in-Err.ensures.refused c.in-Err.ensures.first c.reported_place.ensures
