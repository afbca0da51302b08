use Rattle.std.proofs.{Common.refl, lemmas.Simd.zip2_splat}
use Rattle.interpolator_escapes.specs.Search.{may_begin_escaped}
use Rattle.interpolator_escapes.specs.declared.escape.Escape.TheVariants.{Shell}
use Rattle.interpolator_escapes.proofs.MarkLemmas.{marks_are, equal}
use Rattle.interpolator_escapes.proofs.search.shell_marks.Goals as goal

pub returns : goal.returns
returns c =
    let v = c.args.block in
    marks_are _ (may_begin_escaped Shell) v _ c.fits-block.0 c.fits-block.1
    (zip2_splat equal v 16 39 c.fits-block.0) refl
