use Rattle.std.proofs.Common.{map}
use Rattle.po.proofs.StepLemmas.{one_more}
use Rattle.po.specs.Entries.{ReadsEntry, as_entry}
use Rattle.po.proofs.entry.entries_of.Goals as goal

pub entries-preserved : goal.entries-preserved
entries-preserved c =
    rw c.in_ok-push_entry.ensures (one_more (ReadsEntry c.args.end) c.args.tokens.now
    (map as_entry c.entries.entries.items) c.entries.rest.now (as_entry c.in_ok-entry.entry)
    c.in_ok-entry.next.now c.entries.invariant c.in_ok-entry.ensures.entry)
