-- What the fault of an argument can be and where it lies; and that an argument has one outcome.
use Rattle.std.proofs.Common.{◌≡◌, ℕ, ◌≤◌, List, length, arith, refl, inl, inr, ◌⊎◌, Ok, Err}
use Rattle.std.proofs.Common.{length-drop, IsUtf8, IsCharBoundary}
use Rattle.std.proofs.lemmas.Str.{IsUtf8-drop}
use Rattle.interpolator_syntax.specs.Arguments.{Argument, argument_at, from_byte}
use Rattle.interpolator_syntax.specs.ArgumentGrammar.{IsArgument, IsNoArgument}
use Rattle.interpolator_syntax.specs.Faults.{Fault, fault_place}
use Rattle.interpolator_syntax.specs.{Places.At, ArgumentFaults.IsArgumentFault}
use Rattle.interpolator_syntax.proofs.CharacterLemmas.{size-chars}
use Rattle.interpolator_syntax.proofs.GrammarArgumentLemmas.{argument_is, only_argument, broken_is}
use Rattle.interpolator_syntax.proofs.GrammarArgumentLemmas.{only_broken}
use Rattle.interpolator_syntax.proofs.ReaderLemmas.{argument_refuses, argument_fault}

-- why no argument begins
pub fault_of_argument : (a : At) (f : Fault) → IsNoArgument a f → IsArgumentFault f
fault_of_argument a f h = argument_fault a f (only_broken a f h)

-- a fault in a text of bytes from a byte on
pub fault_in_bytes : (text : List ℕ) (start : ℕ) (f : Fault) → IsUtf8 text
    → IsCharBoundary text start → argument_at (from_byte text start) ≡ Err f
    → fault_place f ≤ length text
fault_in_bytes text start f u boundary e =
    let lies = argument_refuses (from_byte text start) f e in
    grind (arith, lies, size-chars, IsUtf8-drop text start u boundary, length-drop)

-- ---- one outcome

pub some_outcome : (a : At)
    → ((x : Argument) × (q : At) × IsArgument a x q) ⊎ ((f : Fault) × IsNoArgument a f)
some_outcome a =
    elim (argument_at a) as (λ o. argument_at a ≡ o
    → ((x : Argument) × (q : At) × IsArgument a x q) ⊎ ((f : Fault) × IsNoArgument a f)) [
      | Ok w ↦ λ e. inl (w.0, w.1, argument_is a w.1 w.0 e)
      | Err f ↦ λ e. inr (f, broken_is a f e)
    ] refl

pub one_argument : (a q r : At) (x y : Argument) → IsArgument a x q → IsArgument a y r
    → (x ≡ y) × (q ≡ r)
one_argument a q r x y h k = grind (arith, only_argument a q x h, only_argument a r y k)

pub one_fault : (a : At) (f g : Fault) → IsNoArgument a f → IsNoArgument a g → f ≡ g
one_fault a f g h k = grind (arith, only_broken a f h, only_broken a g k)

pub not_both : (a q : At) (x : Argument) (f : Fault) → IsArgument a x q → IsNoArgument a f → ⊥
not_both a q x f h k = grind (arith, only_broken a f k, only_argument a q x h)
