-- The pairs are searched for the bytes of the name, which are the bytes of its characters.
use Rattle.std.proofs.{Common.arith, lemmas.Str.encodes-chars}
use Rattle.interpolator_eval.proofs.pairs.PairsContext.get.Goals as goal

pub returns-in-Some : goal.returns-in-Some
returns-in-Some g c = grind (arith, encodes-chars c.args.key.now)

pub returns-in-None : goal.returns-in-None
returns-in-None g c = grind (arith, encodes-chars c.args.key.now)
