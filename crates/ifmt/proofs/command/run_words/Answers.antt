use Rattle.std.proofs.{Common.refl, lemmas.List.drop_all, lemmas.List.drop_more}
use Rattle.interpolator.specs.NameMaps.{stored_slots}
use Rattle.ifmt.proofs.BindLemmas.{binds_all, none_filled}
use Rattle.ifmt.proofs.command.run_words.Goals as goal

pub loop-entry-init : goal.loop-entry-init
loop-entry-init g c = λ finds. none_filled c.new-context.result c.deref-entry-items.result.now finds
    c.new-context.ensures.names

pub loop-entry-preserved : goal.loop-entry-preserved
loop-entry-preserved g c = λ finds filled. c.loop-entry.invariant finds
    (rw (
      drop_more c.deref-entry-items.result.now c.loop-entry.entry-index c.entry-item.result
          c.loop-entry-test.true,
      ← c.entry-item.is,
    ) (
      stored_slots c.fill.new.context,
      rw (c.as_slice-items.ensures.value) at c.in_ok-fill.ensures.ok,
      filled,
    ))

pub returns-clause-ok : goal.returns-clause-ok
returns-clause-ok g c = record {
  finds = stored_slots c.loop-entry.context;
  bound = binds_all c.args.words.now c.in_ok-objects.objects.items c.deref-entry-items.result.now
      _ _ c.requires c.in_ok-objects.ensures.ok
      (rw (c.deref-entry-items.ensures.value, ← c.as_slice.ensures.value)
      c.in_ok-entries.ensures.ok)
      (c.loop-entry.invariant _ (rw (drop_all c.loop-entry.entry-index
      c.deref-entry-items.result.now c.loop-entry-test.false) refl));
  runs = c.run.ensures;
}
