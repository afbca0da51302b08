-- How a rule is read, word by word: what waits for its last part lies on a stack, and is closed once
-- a word comes that binds no tighter.
use Rattle.std.specs.Prelude.{◌≡◌, ℕ, nat_lt, List, [], ◌∷◌, length, map, reverse, if◌then◌else◌}
use Rattle.std.specs.Prelude.{Option, None, Some, Result, Ok, Err}
use Rattle.plurals.specs.Tokens.{Spot, Word, bang, between, close_bracket, colon, modulo, name, at}
use Rattle.plurals.specs.Tokens.{equal_to, number, open_bracket, question, unequal_to, words_of}
use Rattle.plurals.specs.Tokens.{◌>>=◌}
use Rattle.plurals.specs.Trees.{Tree, Writes, alike, chosen, counted, grouped, joined, named}
use Rattle.plurals.specs.Trees.{negated, reduced, strength, tree_of, unlike}
use Rattle.plurals.specs.declared.{expression.Expression.Expression, expression.Operator.Operator}
use Rattle.plurals.specs.declared.{fault.Fault.Fault, fault.Problem.Problem}
use Rattle.plurals.specs.declared.fault.Problem.TheVariants as problems
use Rattle.plurals.specs.declared.reduce.Frame.{Frame as Held}
use Rattle.plurals.specs.declared.reduce.Frame.TheVariants as held

-- what waits for its last part: `!`, `(`, `a &&`, `a ?` or `a ? b :`
pub data Frame : Type 0 where
  negating : Frame
  opened : Frame
  joining : Tree → Operator → Frame
  asking : Tree → Frame
  choosing : Tree → Tree → Frame

abbrev pub as_frame : Held → Frame
as_frame held.Not = negating
as_frame held.Open = opened
as_frame (held.Joining a operator) = joining (tree_of a) operator
as_frame (held.Asking a) = asking (tree_of a)
as_frame (held.Choosing a b) = choosing (tree_of a) (tree_of b)

-- those on a stack, the last first
abbrev pub frames : List Held → List Frame
frames stack = reverse (map as_frame stack)

-- how tightly it binds; what a bracket or a `:` has to close is closed by no operator
abbrev pub grip : Frame → ℕ
grip negating = 7
grip opened = 0
grip (joining a operator) = strength operator
grip (asking a) = 0
grip (choosing a b) = 1

-- the expression that its last part makes of it
abbrev pub closed : Frame → Tree → Tree
closed negating last = negated last
closed opened last = last
closed (joining a operator) last = joined operator a last
closed (asking a) last = last
closed (choosing a b) last = chosen a b last

-- what binds at least so tightly is closed
abbrev pub close_from : ℕ → List Frame → Tree → List Frame × Tree
close_from least [] last = ([], last)
close_from least (frame ∷ below) last =
    if nat_lt (grip frame) least then (frame ∷ below, last)
    else close_from least below (closed frame last)

-- where the reading stands: an operand is wanted, or one is there
pub data State : Type 0 where
  wants : List Frame → State
  has : List Frame → Tree → State

-- where the reading of the program stands
abbrev pub state_of : List Held → Option Expression → State
state_of stack None = wants (frames stack)
state_of stack (Some last) = has (frames stack) (tree_of last)

-- an operand is there, and what binds at least so tightly closed
abbrev pub with_last : List Frame × Tree → (List Frame → Tree → Result State Problem)
    → Result State Problem
with_last closed next = next closed.0 closed.1

-- after a bracket is closed
abbrev pub bracketed : List Frame → Tree → Result State Problem
bracketed (opened ∷ below) last = Ok (has below (grouped last))
bracketed _ last = Err problems.Operator

-- after the `:` of a choice
abbrev pub halved : List Frame → Tree → Result State Problem
halved (asking a ∷ below) last = Ok (wants (choosing a last ∷ below))
halved _ last = Err problems.Operator

-- after one more word
abbrev pub step : State → Word → Result State Problem
step (wants stack) (name text) = Ok (has stack (named text))
step (wants stack) (number n) = Ok (has stack (counted n))
step (wants stack) (equal_to tested text) = Ok (has stack (alike tested text))
step (wants stack) (unequal_to tested text) = Ok (has stack (unlike tested text))
step (wants stack) bang = Ok (wants (negating ∷ stack))
step (wants stack) open_bracket = Ok (wants (opened ∷ stack))
step (wants stack) _ = Err problems.Operand
step (has stack last) (modulo n) =
    with_last (close_from 6 stack last) (λ below a. Ok (has below (reduced a n)))
step (has stack last) (between operator) = with_last (close_from (strength operator) stack last)
    (λ below a. Ok (wants (joining a operator ∷ below)))
step (has stack last) question =
    with_last (close_from 2 stack last) (λ below a. Ok (wants (asking a ∷ below)))
step (has stack last) colon = with_last (close_from 1 stack last) halved
step (has stack last) close_bracket = with_last (close_from 1 stack last) bracketed
step (has stack last) _ = Err problems.Operator

-- after all words: everything is closed
abbrev pub ended : List Frame × Tree → Result Tree Problem
ended ([], last) = Ok last
ended (frame ∷ below, last) = Err problems.Unfinished

abbrev pub finish : State → Result Tree Problem
finish (wants stack) = Err problems.Operand
finish (has stack last) = ended (close_from 1 stack last)

-- after some more words
abbrev pub steps : State → List Spot → Result State Fault
steps state [] = Ok state
steps state (spot ∷ spots) = at spot.0 (step state spot.1) >>= λ next. steps next spots

-- the expression that some words are, in a rule that ends at a byte
abbrev pub tree_in : (end : ℕ) → List Spot → Result Tree Fault
tree_in end spots = steps (wants []) spots >>= λ state. at end (finish state)

-- the expression that a rule is
abbrev pub tree_at : List ℕ → Result Tree Fault
tree_at rule = words_of rule >>= tree_in (length rule)

-- an expression is what a rule says: the words of the rule are how it is written, and each part
-- binds tightly enough
abbrev pub Says : List ℕ → Tree → Type 0
Says rule tree = (spots : List Spot) × (words_of rule ≡ Ok spots)
    × Writes (map (λ spot. spot.1) spots) tree
