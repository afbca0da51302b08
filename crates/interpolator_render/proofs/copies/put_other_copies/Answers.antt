use Rattle.std.proofs.{Common.replicate, Common.append-nil, lemmas.Str.chars-nil}
use Rattle.interpolator_render.proofs.copies.put_other_copies.Goals as goal

pub returns : goal.returns
returns g c = rw (chars-nil, append-nil (replicate c.args.count c.args.c)) at c.put_between.ensures
