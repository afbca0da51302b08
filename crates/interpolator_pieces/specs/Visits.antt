-- The walk over the pieces of a format, at every depth of groups: which visits it makes, in order.
use Rattle.std.specs.Prelude.{◌≡◌, ◌⊎◌, ◌+◌, ℕ, Bool, true, false, List, [], ◌∷◌, ◌++◌}
use Rattle.std.specs.Prelude.{Result, Ok, IsErr, max}
use Rattle.interpolator_syntax.specs.Places.{At}
use Rattle.interpolator_syntax.specs.Nodes.{Node, node, Branch, no_branch, branch}
use Rattle.interpolator_syntax.specs.Nodes.{Forest, no_nodes, nodes_and, as_forest, nodes}
use Rattle.interpolator_pieces.specs.declared.walk.Level.{Level}

-- a piece is entered, and left after its groups
pub data Visit : Type 0 where
  enter : Level → Node → Visit
  leave : Level → Node → Visit

-- where the pieces of a group are, if its argument is at `level`
abbrev pub inner : (in_item : Bool) → Level → Level
inner in_item level = record { depth = level.depth + 1; in_item = in_item }

abbrev mutual
  -- a piece is entered, then its item format is walked, and then its join; then it is left
  pub node_visits : Level → Node → List Visit
  node_visits level (node place end kind content item join) =
      enter level (node place end kind content item join)
      ∷ (branch_visits (inner true level) item ++ (branch_visits (inner level.in_item level) join
      ++ (leave level (node place end kind content item join) ∷ [])))

  -- the visits of a group whose pieces are at `level`
  pub branch_visits : Level → Branch → List Visit
  branch_visits level no_branch = []
  branch_visits level (branch xs) = forest_visits level xs

  -- those of pieces, in order
  pub forest_visits : Level → Forest → List Visit
  forest_visits level no_nodes = []
  forest_visits level (nodes_and x xs) = node_visits level x ++ forest_visits level xs

-- where the pieces are that are in no group
abbrev pub outermost_spot : Level
outermost_spot = record { depth = 0; in_item = false }

-- the visits of a text
abbrev pub text_visits : At → List Visit
text_visits a = forest_visits outermost_spot (as_forest (nodes a))

-- `step` is what a visitor does at a visit: how it changes, and whether it stops there
module _ {V E : Type 0} (step : V → Visit → V → Result (Unit {0}) E → Type 0) where
  -- a visitor makes these visits in turn, up to the first at which it stops
  abbrev pub Walks : (old : V) → List Visit → (new : V) → Result (Unit {0}) E → Type 0
  Walks old [] new answer = (new ≡ old) × (answer ≡ Ok tt)
  Walks old (x ∷ xs) new answer =
      (step old x new answer × IsErr answer)
      ⊎ ((mid : V) × (step old x mid (Ok tt) × Walks mid xs new answer))

-- the greatest number that a visit gives; 0 without visits
abbrev pub greatest : (Visit → ℕ) → List Visit → ℕ
greatest asks [] = 0
greatest asks (x ∷ xs) = max (asks x) (greatest asks xs)
