use Rattle.std.proofs.Common.{◌∙◌, ap, sym}
use Rattle.interpolator_render.specs.Writers.{byte_count}
use Rattle.interpolator_escapes.proofs.RoomLemmas.{held_size}
use Rattle.interpolator_escapes.proofs.room.Room.len.Goals as goal

pub returns : goal.returns
returns c =
    sym (ap byte_count (sym c.self.view_is)
    ∙ held_size c.self.inside.bytes c.self.inside.filled c.self.told c.self.invariant)
