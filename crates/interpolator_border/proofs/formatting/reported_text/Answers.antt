use Rattle.std.proofs.{Common.arith, Common.inl, lemmas.Str.encodes-chars}
use Rattle.interpolator_border.proofs.formatting.reported_text.Goals as goal

pub returns-in-Some : goal.returns-in-Some
returns-in-Some c = grind (arith, inl, encodes-chars)
