use Rattle.std.proofs.Common.{arith}
use Rattle.interpolator_render.proofs.CopyLemmas.{chars-copies, copies_boundary, few_bytes}
use Rattle.interpolator_render.proofs.CopyLemmas.{first_copies}
use Rattle.interpolator_render.proofs.LayoutLemmas.{bytes_of_copies, puts_from_write}
use Rattle.interpolator_render.proofs.WrittenLemmas.{whatever_limit}
use Rattle.interpolator_render.proofs.copies.put_first.Goals as goal

pub range-requires-clause-end_boundary : goal.range-requires-clause-end_boundary
range-requires-clause-end_boundary g c = grind (arith, copies_boundary)

pub returns : goal.returns
returns g c = let few = few_bytes c.args.count c.args.c in
    grind (arith, bytes_of_copies, puts_from_write, first_copies, chars-copies, whatever_limit)
