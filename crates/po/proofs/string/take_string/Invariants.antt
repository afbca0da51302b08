use Rattle.std.proofs.Common.{◌≡◌, ◌≤◌, length, string_bytes}
use Rattle.po.specs.{Steps.Leads, Strings.ReadsByte}
use Rattle.po.proofs.string.take_string.Given as goal

abbrev pub invariant-pieces : goal.invariant-pieces
invariant-pieces l = record {
  end : l.at.end ≡ l.from.end;
  within : length l.at.text.now ≤ length l.from.text.now;
  read : Leads ReadsByte l.from.text.now (string_bytes l.value) l.at.text.now;
}

abbrev pub decreases-pieces : goal.decreases-pieces
decreases-pieces l = length l.at.text.now
