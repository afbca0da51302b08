use Rattle.std.proofs.lemmas.List.{take_all}
use Rattle.interpolator.proofs.SampleMapLemmas.{last_next, map_finds}
use Rattle.merge.proofs.samples.map_of.Goals as goal

pub loop-pair-preserved : goal.loop-pair-preserved
loop-pair-preserved c =
    last_next c.args.sample.now c.loop-pair.pair-index _ c.loop-pair.map c.add.new.map
    c.loop-pair-test.true c.in_ok-add.ensures.added c.loop-pair.invariant

pub returns : goal.returns
returns c =
    record {
      map = map_finds c.args.sample.now c.loop-pair.map
          (rw (take_all c.loop-pair.pair-index c.args.sample.now c.loop-pair-test.false) at
          c.loop-pair.invariant);
    }
