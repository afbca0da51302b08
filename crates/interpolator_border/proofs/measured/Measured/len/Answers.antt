use Rattle.std.proofs.{Common.append-nil, Common.arith, lemmas.Str.encodes-chars}
use Rattle.interpolator_border.proofs.measured.Measured.len.Goals as goal

pub returns-then-self-eq0 : goal.returns-then-self-eq0
returns-then-self-eq0 c = grind (arith, append-nil, encodes-chars)
