use Rattle.std.proofs.{Common.ap, Common.arith, lemmas.List.drop_all}
use Rattle.interpolator.specs.Meaning.Parts.{bytes_of}
use Rattle.interpolator.proofs.PartLemmas.{rest_at}
use Rattle.interpolator_vectors.proofs.sizes.parts_fit.Goals as goal

pub loop-part-preserved : goal.loop-part-preserved
loop-part-preserved c =
    let split = rest_at c.args.parts.now c.loop-part.part-index c.loop-part-test.true in
    record {
      left = omega (arith, ap bytes_of split, c.loop-part.invariant.left, c.in-Some.ensures);
      fits = omega (arith, c.in-Some.ensures);
    }

pub returns : goal.returns
returns c =
    λ _. omega (
      arith,
      c.loop-part.invariant.left,
      c.loop-part.invariant.fits,
      ap bytes_of (drop_all c.loop-part.part-index c.args.parts.now c.loop-part-test.false),
    )
