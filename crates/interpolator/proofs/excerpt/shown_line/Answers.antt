use Rattle.std.proofs.{Common.rules, lemmas.Str.encodes-chars}
use Rattle.interpolator.proofs.excerpt.shown_line.Goals as goal

pub returns : goal.returns
returns c = rw (encodes-chars c.args.part.now c.utf8.part) (search rules)
