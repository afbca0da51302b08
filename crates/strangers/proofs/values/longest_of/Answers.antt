use Rattle.std.proofs.{Common.arith, lemmas.List.drop_all, lemmas.List.Elements.All-more}
use Rattle.strangers.proofs.ValueLemmas.{longest_next}
use Rattle.strangers.specs.Values.{IsInRange}
use Rattle.strangers.proofs.values.longest_of.Goals as goal

pub loop-value-preserved : goal.loop-value-preserved
loop-value-preserved c = record {
  count = longest_next c.args.values.now c.loop-value.value-index _ _ _ _ c.loop-value-test.true
      c.loop-value.invariant.count c.characters_of.ensures.count
      (omega (arith, c.max-longest.ensures));
  range = All-more IsInRange c.args.values.now c.loop-value.value-index _ c.loop-value-test.true
      c.loop-value.invariant.range c.characters_of.ensures.range;
}

pub returns-clause-count : goal.returns-clause-count
returns-clause-count c =
    let all = rw (drop_all c.loop-value.value-index c.args.values.now c.loop-value-test.false)
    at c.loop-value.invariant.count in omega (arith, all)
