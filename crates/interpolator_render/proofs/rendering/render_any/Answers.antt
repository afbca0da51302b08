use Rattle.std.proofs.{Common.arith, lemmas.Int.to_z-of_z}
use Rattle.interpolator_render.specs.Texts.{view_text}
use Rattle.interpolator_render.proofs.RenderingLemmas.{renders_puts, signed_text}
use Rattle.interpolator_render.proofs.rendering.render_any.Goals as goal

pub returns-in-Some : goal.returns-in-Some
returns-in-Some g c = grind (arith, signed_text, to_z-of_z)

pub returns-in-Plain : goal.returns-in-Plain
unfolding view_text
returns-in-Plain g c = grind (arith, renders_puts)
