use Rattle.std.proofs.Common.{◌≡◌, List, length}
use Rattle.merge.specs.{Columns.kinds_in, Columns.names_in, Letters.WritesRows}
use Rattle.merge.proofs.TableLemmas.{HasRead}
use Rattle.records.specs.Tables.{Entry, at, separator_of}
use Rattle.merge.proofs.letters.write_rows.Given as goal

abbrev pub invariant-rows : goal.invariant-rows
invariant-rows g l = record {
  same : separator_of l.reader ≡ separator_of l.fn.rest;
  rows : (rows : List Entry) × HasRead (separator_of l.fn.rest) (at l.fn.rest) (at l.reader) rows
      × WritesRows l.letters (names_in l.frame.columns.now) (kinds_in l.frame.columns.now) l.writes
      rows (g.W.TextWrite.written l.initial.out).text (g.W.TextWrite.written l.out).text l.faults.items;
}

abbrev pub decreases-rows : goal.decreases-rows
decreases-rows g l = length (at l.reader).text
