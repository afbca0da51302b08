use Rattle.std.proofs.Common.{refl}
use Rattle.interpolator_syntax.specs.Places.{outermost}
use Rattle.interpolator.specs.Escaping.{braces_doubled}
use Rattle.interpolator.proofs.EscapeLemmas.{escaped_plain, plain_means}
use Rattle.interpolator_laws.proofs.escapes.doubled_braces_say_the_text.Goals as goal

pub returns : goal.returns
returns g c =
    λ e text. plain_means g.V.Value.shows e (outermost (braces_doubled text)) text
    (escaped_plain (braces_doubled text) text refl)
