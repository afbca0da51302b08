use Rattle.std.proofs.Common.{◌<◌, arith, length, rules, take}
use Rattle.std.proofs.lemmas.List.{length-take}
use Rattle.interpolator_border.proofs.LevelLemmas.{settled_step, settled_within}
use Rattle.interpolator_border.proofs.levels.settled.Goals as goal

pub loop-item-preserved : goal.loop-item-preserved
loop-item-preserved c =
    let less : c.loop-item.item-index < length c.args.items.now = search rules in (
      omega (arith, c.loop-item.invariant.0),
      settled_step c.args.from c.args.items.now
          c.loop-item.item-index c.loop-item.count c.loop-item.after c.settled_with-after.result
          c.begins_before.result _ less c.loop-item.invariant.0 c.loop-item.invariant.1
          c.begins_before.ensures c.settled_with-after.ensures,
    )

pub returns-clause-within : goal.returns-clause-within
returns-clause-within c =
    grind (
      arith,
      length-take,
      settled_within c.args.from (take c.loop-item.item-index c.args.items.now),
    )
