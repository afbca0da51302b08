use Rattle.std.proofs.Common.{◌≡◌, ◌≤◌, ◌+◌, false, length, drop, take, ◌++◌}
use Rattle.interpolator_digits.specs.Digits.{digit_text}
use Rattle.interpolator_render.proofs.digits.write_pairs.Given as goal

abbrev pub invariant-loop-rest : goal.invariant-loop-rest
invariant-loop-rest l = record {
  place : l.at ≤ l.end;
  size : length l.out ≡ 128;
  begins : l.at + length (digit_text 10 false l.n) ≡ l.end + length (digit_text 10 false l.rest);
  written : digit_text 10 false l.rest ++ drop l.at l.out ≡ digit_text 10 false l.n
      ++ drop l.end l.initial.out;
  front : take l.at l.out ≡ take l.at l.initial.out;
}

abbrev pub decreases-loop-rest : goal.decreases-loop-rest
decreases-loop-rest l = l.rest
