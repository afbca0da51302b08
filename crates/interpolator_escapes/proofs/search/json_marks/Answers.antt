use Rattle.std.proofs.{Common.refl, Common.bit_xor, lemmas.Simd.zip2_splat}
use Rattle.interpolator_escapes.specs.Search.{may_begin_escaped}
use Rattle.interpolator_escapes.specs.declared.escape.Escape.TheVariants.{Json}
use Rattle.interpolator_escapes.proofs.MarkLemmas.{marks_are, either, changed, equal, at_most}
use Rattle.interpolator_escapes.proofs.search.json_marks.Goals as goal

pub returns : goal.returns
returns c =
    let v = c.args.block in
    let long = c.fits-block.0 in
    marks_are _ (may_begin_escaped Json) v _ long c.fits-block.1
    (either _ _ v
    (either _ _ v (changed at_most bit_xor v 2 32 long) (zip2_splat equal v 16 92 long))
    (zip2_splat equal v 16 60 long)) refl
