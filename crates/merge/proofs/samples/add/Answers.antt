use Rattle.interpolator.proofs.SampleMapLemmas.{pair_more}
use Rattle.merge.proofs.samples.add.Goals as goal

pub returns : goal.returns
returns c = record {
  added =
      pair_more c.args.pair.now c.args.map.now c.insert.new.self c.in_ok-insert.ensures.updates.0;
}
