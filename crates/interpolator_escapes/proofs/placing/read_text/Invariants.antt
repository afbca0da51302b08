use Rattle.std.proofs.Common.{◌≡◌}
use Rattle.interpolator_escapes.specs.Readers.{state_after}
use Rattle.interpolator_escapes.proofs.placing.read_text.Given as goal

-- the reader is where the characters so far leave it
abbrev pub invariant-loop-c : goal.invariant-loop-c
invariant-loop-c g l =
    g.R.Reader.state l.reader
    ≡ state_after g.R.Reader.step (g.R.Reader.state l.fn.reader) l.yielded
