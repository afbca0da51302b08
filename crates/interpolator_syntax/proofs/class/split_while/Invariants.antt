use Rattle.std.proofs.Common.{◌≡◌, ◌++◌, length, ℕ, List, chars}
use denote.{Text.Utf8, Shadow.shadow}
use Rattle.interpolator_syntax.specs.Classes.{in_class, after_of}
use Rattle.interpolator_syntax.proofs.class.split_while.Given as goal

abbrev pub invariant-loop-after : goal.invariant-loop-after
invariant-loop-after l =
    shadow (Utf8 l.rest)
    × ((front : List ℕ) × (l.text ≡ front ++ l.rest))
    × (after_of (in_class l.class) (chars l.text) ≡ after_of (in_class l.class) (chars l.rest))

abbrev pub decreases-loop-after : goal.decreases-loop-after
decreases-loop-after l = length l.rest
