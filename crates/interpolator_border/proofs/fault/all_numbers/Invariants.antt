use Rattle.std.proofs.Common.{◌≡◌, map, take}
use Rattle.interpolator_syntax.specs.Faults.{answer_of}
use Rattle.interpolator_border.specs.Answers.{fault_numbers}
use Rattle.interpolator_border.proofs.fault.all_numbers.Given as goal

abbrev pub invariant-loop-error : goal.invariant-loop-error
invariant-loop-error l =
    l.faults.items ≡ map fault_numbers (map answer_of (take l.error-index l.errors))
