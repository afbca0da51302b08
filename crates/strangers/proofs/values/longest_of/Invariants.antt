use Rattle.std.proofs.Common.{◌≡◌, All, drop, max, take}
use Rattle.strangers.specs.Values.{IsInRange, longest_of}
use Rattle.strangers.proofs.values.longest_of.Given as goal

abbrev pub invariant-loop-value : goal.invariant-loop-value
invariant-loop-value l = record {
  count : max l.longest (longest_of (drop l.value-index l.values)) ≡ longest_of l.values;
  range : All IsInRange (take l.value-index l.values);
}
