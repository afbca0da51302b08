use Rattle.std.proofs.Common.{arith, refl}
use Rattle.interpolator_syntax.proofs.FirstByteLemmas.{ends_reported}
use Rattle.interpolator_pieces.proofs.names.context_name.Goals as goal

pub returns-then-is_empty : goal.returns-then-is_empty
returns-then-is_empty c = grind (arith, ends_reported c.args.name.now _ c.utf8.name refl)

pub returns : goal.returns
returns c = grind (arith, ends_reported c.args.name.now _ c.utf8.name refl)
