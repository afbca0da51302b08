-- The map is searched for the bytes of the name, which are the bytes of its characters.
use Rattle.std.proofs.{Common.arith, lemmas.Str.encodes-chars}
use Rattle.interpolator_eval.proofs.context.ByNamesContext.get.Goals as goal

pub returns : goal.returns
returns g c = grind (arith, encodes-chars c.args.key.now)
