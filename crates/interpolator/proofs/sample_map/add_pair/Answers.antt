use Rattle.interpolator.proofs.SampleMapLemmas.{pair_more}
use Rattle.interpolator.proofs.sample_map.add_pair.Goals as goal

pub returns : goal.returns
returns g c = record {
  added = pair_more c.args.pair.now c.args.map.now c.insert.new.self c.in_ok-insert.ensures.updates.0;
}
