use Rattle.std.proofs.{Common.arith, lemmas.Int.to_z-of_z}
use Rattle.interpolator_render.proofs.RenderingLemmas.{plain_signed, plain_text, plain_unsigned}
use Rattle.interpolator_render.proofs.RenderingLemmas.{renders_puts}
use Rattle.interpolator_render.proofs.rendering.render_plainly.Goals as goal

pub returns-in-Text : goal.returns-in-Text
returns-in-Text g c = grind (arith, renders_puts, plain_text)

pub returns-then-number-le-GREATEST_U64 : goal.returns-then-number-le-GREATEST_U64
returns-then-number-le-GREATEST_U64 g c = grind (arith, renders_puts, plain_unsigned)

pub returns-then-number-2 : goal.returns-then-number-2
returns-then-number-2 g c = grind (arith, renders_puts, plain_signed, to_z-of_z)
