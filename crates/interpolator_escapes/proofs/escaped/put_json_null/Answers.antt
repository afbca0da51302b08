use Rattle.std.specs.Str.{chars}
use Rattle.interpolator_render.proofs.LayoutLemmas.{writes_from_puts}
use Rattle.interpolator_escapes.proofs.escaped.put_json_null.Goals as goal

pub returns : goal.returns
unfolding chars
returns g c = writes_from_puts _ _ _ _ c.put_text.ensures
