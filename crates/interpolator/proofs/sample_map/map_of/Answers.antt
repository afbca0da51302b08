use Rattle.std.proofs.{Common.take, lemmas.List.take_all, lemmas.List.take_more}
use Rattle.interpolator.proofs.SampleMapLemmas.{map_finds}
use Rattle.interpolator.proofs.sample_map.map_of.Goals as goal

pub loop-pair-preserved : goal.loop-pair-preserved
loop-pair-preserved g c =
    let pairs = c.args.pairs.now in
    let i = c.loop-pair.pair-index in
    rw (take_more pairs i c.pair-item.result c.loop-pair-test.true, ← c.pair-item.is)
    (c.in_ok-add_pair.ensures.added (take i pairs) c.loop-pair.invariant)

pub returns : goal.returns
returns g c =
    record {
      map = map_finds c.args.pairs.now c.loop-pair.map
          (rw (take_all c.loop-pair.pair-index c.args.pairs.now c.loop-pair-test.false) at
          c.loop-pair.invariant);
    }
