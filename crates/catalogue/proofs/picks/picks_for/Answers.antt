use Rattle.std.proofs.lemmas.List.{get_or_default, take_all}
use Rattle.words.specs.Declarations.{as_declaration}
use Rattle.catalogue.specs.{Entries.held_by_entry, Picks.HasPick, Picks.HoldsPick}
use Rattle.catalogue.proofs.ZipLemmas.{first_without, zip_mapped, zip_more}
use Rattle.catalogue.proofs.picks.picks_for.Goals as goal

pub loop-one-preserved : goal.loop-one-preserved
loop-one-preserved c =
    rw (c.in_ok-push-in-Some.ensures.items) (zip_more _ c.args.declared.now
    c.loop-one.one-index _ c.loop-one.entries.items _ c.loop-one-test.true
    (get_or_default c.args.declared.now c.loop-one.one-index _ _ c.loop-one-test.true)
    c.loop-one.invariant (record {
      object = c.in-Some.object.now;
      is = rw c.in-Some.is at c.pick_for.ensures;
      holds = c.in_ok-entry_of-in-Some.ensures.entry;
    }))

pub returns-in-None-clause-picked : goal.returns-in-None-clause-picked
returns-in-None-clause-picked c =
    first_without as_declaration (HasPick c.args.objects.now) _ (λ one entry h. (h.object, h.is))
    c.args.declared.now c.loop-one.one-index _ c.loop-one.entries.items c.loop-one-test.true
    (get_or_default c.args.declared.now c.loop-one.one-index _ _ c.loop-one-test.true)
    c.loop-one.invariant (rw c.in-None.is at c.pick_for.ensures)

pub returns-clause-picked : goal.returns-clause-picked
returns-clause-picked c =
    zip_mapped as_declaration held_by_entry (HoldsPick c.args.objects.now) c.args.declared.now
    c.loop-one.entries.items
    (rw (take_all c.loop-one.one-index c.args.declared.now c.loop-one-test.false) at
    c.loop-one.invariant)
