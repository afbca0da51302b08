use Rattle.std.proofs.Common.{◌+◌, length, ap, arith, Some}
use Rattle.std.proofs.lemmas.List.{drop_all}
use Rattle.interpolator_syntax.specs.Faults.{answer_of}
use Rattle.interpolator.specs.Meaning.Parts.{bytes_of}
use Rattle.interpolator_eval.proofs.MeaningLemmas.SinkLemmas.{same_then, goes_on}
use Rattle.interpolator_eval.proofs.MeaningLemmas.PlaceLemmas.{lies_in_more}
use Rattle.interpolator.proofs.PartLemmas.{part_runs, part_faults, no_parts_run, part_at, rest_at}
use Rattle.interpolator.proofs.parts.write_each.Goals as goal

pub write_part-requires : goal.write_part-requires
write_part-requires g c =
    let split = rest_at c.args.parts.now c.loop-part.part-index c.loop-part-test.true in
    record { fits = omega (arith, ap bytes_of split, c.loop-part.invariant.fits, c.requires.fits) }

pub returns-in-Err : goal.returns-in-Err
returns-in-Err g c =
    let parts = c.args.parts.now in
    let i = c.loop-part.part-index in
    let split = rest_at parts i c.loop-part-test.true in
    record {
      writes =
          goes_on _ _ _ _ _ _ _ c.loop-part.invariant.so_far c.loop-part.invariant.same
          (part_faults _ _ _ _ _ _ _ split _ _ _ c.in-Err.ensures.writes);
      place =
          lies_in_more (c.loop-part.place + length (part_at parts i).now) (bytes_of parts)
          (Some (answer_of c.in-Err.fault))
          (omega (arith, ap bytes_of split, c.loop-part.invariant.fits)) c.in-Err.ensures.place;
    }

pub loop-part-preserved : goal.loop-part-preserved
loop-part-preserved g c =
    let split = rest_at c.args.parts.now c.loop-part.part-index c.loop-part-test.true in
    record {
      so_far =
          λ new answer o. c.loop-part.invariant.so_far new answer
          (part_runs _ _ _ _ _ _ _ split _ _ _ _ _ c.in-Ok.ensures.after c.in-Ok.ensures.writes
          o);
      same = same_then _ _ _ c.loop-part.invariant.same c.in-Ok.ensures.writes.same;
      fits = omega (arith, ap bytes_of split, c.loop-part.invariant.fits, c.in-Ok.ensures.bytes);
    }

pub returns : goal.returns
returns g c = record {
  writes =
      goes_on _ _ _ _ _ _ _ c.loop-part.invariant.so_far c.loop-part.invariant.same
      (no_parts_run _ _ _ _ _ _
      (drop_all c.loop-part.part-index c.args.parts.now c.loop-part-test.false));
  place = tt;
}
