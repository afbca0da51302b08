use Rattle.std.proofs.Common.{◌≡◌}
use Rattle.interpolator_escapes.specs.{CodeReaders.csv_state, Csv.csv_step, Readers.state_after}
use Rattle.interpolator_escapes.proofs.readers.csv.csv_after.Given as goal

-- the state is where the characters so far leave it
abbrev pub invariant-loop-c : goal.invariant-loop-c
invariant-loop-c l =
    csv_state l.here ≡ state_after csv_step (csv_state l.fn.state) l.yielded
