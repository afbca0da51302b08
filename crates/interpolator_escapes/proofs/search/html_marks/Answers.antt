use Rattle.std.proofs.{Common.refl, Common.bit_or, lemmas.Simd.zip2_splat}
use Rattle.interpolator_escapes.specs.Search.{may_begin_escaped}
use Rattle.interpolator_escapes.specs.declared.escape.Escape.TheVariants.{Html}
use Rattle.interpolator_escapes.proofs.MarkLemmas.{marks_are, either, changed, equal}
use Rattle.interpolator_escapes.proofs.search.html_marks.Goals as goal

pub returns : goal.returns
returns c =
    let v = c.args.block in
    let long = c.fits-block.0 in
    marks_are _ (may_begin_escaped Html) v _ long c.fits-block.1
    (either _ _ v
    (either _ _ v (changed equal bit_or v 2 62 long) (changed equal bit_or v 4 38 long))
    (zip2_splat equal v 16 39 long)) refl
