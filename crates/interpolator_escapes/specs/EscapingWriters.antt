-- What a writer that escapes its text has taken.
use Rattle.std.specs.Prelude.{None, Some}
use Rattle.interpolator_render.specs.Writers.{Written}
use Rattle.interpolator_escapes.specs.{Passing.layers, Rooms.way_of}
use Rattle.interpolator_escapes.specs.declared.escaping.Escaping.{Escaping}

-- the text taken, as it was before it was escaped; `written` is what the writer below has taken
abbrev pub escaping_written : {W : Type 0} {g : _} → (written : W → Written) → Escaping W g
    → Written
escaping_written written w = record {
  text = w.taken.text;
  refused = w.refused;
  origin = record {
    bound = None;
    below = Some w.taken.start;
    through = layers w.out.ghost_name (way_of w.escape) (written w.out.now).origin;
  };
}
