use Rattle.std.proofs.Common.{length, map}
use Rattle.po.specs.{Entries.ReadsEntry, Entries.as_entry, Steps.Leads}
use Rattle.po.proofs.entry.entries_of.Given as goal

abbrev pub invariant-entries : goal.invariant-entries
invariant-entries l =
    Leads (ReadsEntry l.end) l.tokens (map as_entry l.entries.items) l.rest

abbrev pub decreases-entries : goal.decreases-entries
decreases-entries l = length l.rest
