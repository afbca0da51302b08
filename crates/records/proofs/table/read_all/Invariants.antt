use Rattle.std.proofs.Common.{◌≡◌, List, length}
use Rattle.records.proofs.EntryLemmas.{HasRead}
use Rattle.records.specs.Tables.{AreOf, Entry, at, separator_of}
use Rattle.records.proofs.table.read_all.Given as goal

abbrev pub invariant-entries : goal.invariant-entries
invariant-entries l = record {
  same : separator_of l.reader ≡ separator_of l.from;
  entries : (entries : List Entry)
      × HasRead (separator_of l.from) (at l.from) (at l.reader) entries
      × AreOf entries l.records.items l.faults.items;
}

abbrev pub decreases-entries : goal.decreases-entries
decreases-entries l = length (at l.reader).text
