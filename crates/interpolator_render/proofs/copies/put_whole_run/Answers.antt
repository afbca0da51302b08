use Rattle.std.proofs.Common.{arith, rules}
use Rattle.interpolator_render.proofs.CopyLemmas.{chars-copies, few_bytes}
use Rattle.interpolator_render.proofs.LayoutLemmas.{bytes_of_copies, puts_from_write}
use Rattle.interpolator_render.proofs.WrittenLemmas.{whatever_limit}
use Rattle.interpolator_render.proofs.copies.put_whole_run.Goals as goal

pub returns : goal.returns
returns g c = puts_from_write _ _ _ _ (grind (arith, bytes_of_copies, few_bytes))
    (rw (c.requires.copies, chars-copies 64 c.args.run.c (search rules))
    at (whatever_limit _ _ _ _ _ _ c.write_str.ensures))
