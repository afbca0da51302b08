use Rattle.std.proofs.{Common.refl, Common.bit_and, lemmas.Simd.zip2_splat}
use Rattle.interpolator_escapes.specs.Search.{may_begin_escaped}
use Rattle.interpolator_escapes.specs.declared.escape.Escape.TheVariants.{Line}
use Rattle.interpolator_escapes.proofs.MarkLemmas.{marks_are, either, changed, equal, below}
use Rattle.interpolator_escapes.proofs.search.line_marks.Goals as goal

pub returns : goal.returns
returns c =
    let v = c.args.block in
    let long = c.fits-block.0 in
    marks_are _ (may_begin_escaped Line) v _ long c.fits-block.1
    (either _ _ v
    (either _ _ v
    (either _ _ v (zip2_splat below v 16 32 long) (zip2_splat equal v 16 127 long))
    (either _ _ v (zip2_splat equal v 16 92 long) (zip2_splat equal v 16 216 long)))
    (changed equal bit_and v 223 194 long)) refl
