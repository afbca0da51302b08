use Rattle.std.proofs.Common.{◌≡◌, ◌≤◌, ◌+◌, length, drop, take, ◌++◌}
use Rattle.interpolator_digits.specs.Digits.{digit_text}
use Rattle.interpolator_render.proofs.digits.write_low.Given as goal

abbrev pub invariant-loop-rest : goal.invariant-loop-rest
invariant-loop-rest l = record {
  place : l.at ≤ l.end;
  size : length l.out ≡ 128;
  begins : l.at + length (digit_text l.base l.upper l.n)
      ≡ l.end + length (digit_text l.base l.upper l.rest);
  written : digit_text l.base l.upper l.rest ++ drop l.at l.out ≡ digit_text l.base l.upper l.n
      ++ drop l.end l.initial.out;
  front : take l.at l.out ≡ take l.at l.initial.out;
}

abbrev pub decreases-loop-rest : goal.decreases-loop-rest
decreases-loop-rest l = l.rest
