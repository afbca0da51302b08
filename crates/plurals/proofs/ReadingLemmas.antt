-- How a rule is read, and how it is written.
use Rattle.std.proofs.Common.{◌≡◌, arith, List, [], ◌∷◌, ◌++◌}
use Rattle.std.proofs.lemmas.List.{map-append, reverse-append}
use Rattle.plurals.specs.{Readings.as_frame, Readings.frames, declared.reduce.Frame.Frame as Held}

-- one more on the stack is the first
pub one_more_frame : (stack : List Held) (frame : Held)
    → frames (stack ++ (frame ∷ [])) ≡ as_frame frame ∷ frames stack
one_more_frame stack frame = grind (arith, map-append, reverse-append)
