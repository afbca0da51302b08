use Rattle.std.proofs.Common.{◌≡◌, ◌*◌, ◌^◌, ◌<◌}
use Rattle.interpolator_floats.proofs.whole.without_zeros.Given as goal

abbrev pub invariant-loop-digits : goal.invariant-loop-digits
invariant-loop-digits l = record {
  some : 0 < l.digits;
  value : l.fn.choice.count ≡ l.digits * 10 ^ l.zeros;
}

abbrev pub decreases-loop-digits : goal.decreases-loop-digits
decreases-loop-digits l = l.digits
