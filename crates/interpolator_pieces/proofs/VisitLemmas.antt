-- What visitors gather on a walk, and what that is for the pieces of a text.
use Rattle.std.proofs.Common.{◌≡◌, refl, arith, ℕ, ◌+◌, List, [], ◌∷◌, ◌++◌, Result, Ok, inl, inr}
use Rattle.std.proofs.Common.{append_assoc, Bool, true, append-nil, flat_map, max}
use Rattle.std.proofs.{lemmas.Grind.flat_map-append, Math.Nat.max-zero}
use Rattle.interpolator_syntax.specs.Places.{At}
use Rattle.interpolator_syntax.specs.Nodes.{Node, node, Branch, no_branch, branch, Forest, no_nodes}
use Rattle.interpolator_syntax.specs.Nodes.{nodes_and, as_forest, nodes}
use Rattle.interpolator_eval.specs.Meaning.AskedNames.{node_asks, branch_asks, forest_asks}
use Rattle.interpolator_eval.specs.Meaning.AskedNames.{asked_names}
use Rattle.interpolator_pieces.specs.NodeChecks.{node_faults, branch_faults, forest_faults}
use Rattle.interpolator_pieces.specs.NodeChecks.{text_faults, visit_faults}
use Rattle.interpolator_pieces.specs.NodeExtents.{node_depth, branch_depth, forest_depth}
use Rattle.interpolator_pieces.specs.NodeExtents.{node_extent, branch_extent, forest_extent}
use Rattle.interpolator_pieces.specs.NodeExtents.{visit_depth, inner_depth, visit_extent}
use Rattle.interpolator_pieces.specs.Visits.{Visit, Walks, inner, greatest, node_visits}
use Rattle.interpolator_pieces.specs.Visits.{branch_visits, forest_visits, text_visits}
use Rattle.interpolator_pieces.specs.Visits.{outermost_spot}
use Rattle.interpolator_pieces.specs.Stored.{node_whole, branch_whole, forest_whole}
use Rattle.interpolator_pieces.specs.{NodeNames.visit_asks, declared.walk.Level.Level}
use Rattle.interpolator_pieces.proofs.{WholeLemmas.nodes_whole, WholePieceLemmas.both}

-- ---- what a visitor gathers

module _ {V E : Type 0} (step : V → Visit → V → Result (Unit {0}) E → Type 0) where
  -- each visit adds to a list
  pub gathers : {B : Type 0} (content : V → List B) (gives : Visit → List B)
      → ((old new : V) (x : Visit) → step old x new (Ok tt) → content new ≡ content old ++ gives x)
      → (old new : V) (xs : List Visit) → Walks step old xs new (Ok tt)
      → content new ≡ content old ++ flat_map gives xs
  gathers content gives adds old new [] h = grind (arith, append-nil)
  gathers content gives adds old new (x ∷ xs) (inl h) = let wrong = h.1 in absurd (cc)
  gathers content gives adds old new (x ∷ xs) (inr (mid, (s, h))) =
      grind (arith, append_assoc, gathers content gives adds mid new xs h)

  -- each visit gives a number, and the greatest is kept
  pub gathers_greatest : (content : V → ℕ) (asks : Visit → ℕ)
      → ((old new : V) (x : Visit) (answer : Result (Unit {0}) E) → step old x new answer
      → (answer ≡ Ok tt) × (content new ≡ max (content old) (asks x)))
      → (old new : V) (xs : List Visit) (answer : Result (Unit {0}) E)
      → Walks step old xs new answer
      → (answer ≡ Ok tt) × (content new ≡ max (content old) (greatest asks xs))
  gathers_greatest content asks adds old new [] answer h = grind (arith, max-zero)
  gathers_greatest content asks adds old new (x ∷ xs) answer (inl h) = grind arith
  gathers_greatest content asks adds old new (x ∷ xs) answer (inr (mid, (s, h))) =
      grind (arith, gathers_greatest content asks adds mid new xs answer h)

-- ---- what visits give, of pieces

-- the names of pieces
mutual
  node_names : (level : Level) (x : Node)
      → flat_map visit_asks (node_visits level x) ≡ node_asks level.in_item x
  node_names level (node place end kind held item join) =
      let first = branch_names (inner true level) item in
      let last = branch_names (inner level.in_item level) join in
      grind (arith, flat_map-append, append-nil, first, last)

  branch_names : (level : Level) (x : Branch)
      → flat_map visit_asks (branch_visits level x) ≡ branch_asks level.in_item x
  branch_names level no_branch = refl
  branch_names level (branch xs) = forest_names level xs

  pub forest_names : (level : Level) (xs : Forest)
      → flat_map visit_asks (forest_visits level xs) ≡ forest_asks level.in_item xs
  forest_names level no_nodes = refl
  forest_names level (nodes_and x xs) =
      grind (arith, flat_map-append, node_names level x, forest_names level xs)

-- their faults
mutual
  node_reported : (level : Level) (x : Node) → node_whole x ≡ true
      → flat_map visit_faults (node_visits level x) ≡ node_faults x
  node_reported level (node place end kind held item join) h =
      let first = branch_reported (inner true level) item in
      let last = branch_reported (inner level.in_item level) join in
      grind (arith, flat_map-append, append-nil, both, first, last)

  branch_reported : (level : Level) (x : Branch) → branch_whole x ≡ true
      → flat_map visit_faults (branch_visits level x) ≡ branch_faults x
  branch_reported level no_branch h = refl
  branch_reported level (branch xs) h = forest_reported level xs h

  pub forest_reported : (level : Level) (xs : Forest) → forest_whole xs ≡ true
      → flat_map visit_faults (forest_visits level xs) ≡ forest_faults xs
  forest_reported level no_nodes h = refl
  forest_reported level (nodes_and x xs) h =
      grind (arith, flat_map-append, both, node_reported level x, forest_reported level xs)

-- the greatest of two runs of visits
greatest-append : (asks : Visit → ℕ) (xs ys : List Visit)
    → greatest asks (xs ++ ys) ≡ max (greatest asks xs) (greatest asks ys)
greatest-append asks [] ys = omega arith
greatest-append asks (x ∷ xs) ys = omega (arith, greatest-append asks xs ys)

-- the greatest width or precision of pieces, by the walk
mutual
  node_wide : (level : Level) (x : Node)
      → greatest visit_extent (node_visits level x) ≡ node_extent x
  node_wide level (node place end kind held item join) =
      let a = branch_wide (inner true level) item in
      let b = branch_wide (inner level.in_item level) join in grind (arith, greatest-append, a, b)

  branch_wide : (level : Level) (x : Branch)
      → greatest visit_extent (branch_visits level x) ≡ branch_extent x
  branch_wide level no_branch = refl
  branch_wide level (branch xs) = forest_wide level xs

  forest_wide : (level : Level) (xs : Forest)
      → greatest visit_extent (forest_visits level xs) ≡ forest_extent xs
  forest_wide level no_nodes = refl
  forest_wide level (nodes_and x xs) =
      grind (arith, greatest-append, node_wide level x, forest_wide level xs)

-- how deep pieces are, by where they are
mutual
  node_deep : (level : Level) (x : Node)
      → max level.depth (greatest visit_depth (node_visits level x)) ≡ level.depth + node_depth x
  node_deep level (node place end kind held item join) =
      let a = branch_deep level true item in
      let b = branch_deep level level.in_item join in grind (arith, greatest-append, a, b)

  branch_deep : (level : Level) (in_item : Bool) (x : Branch)
      → max level.depth (max (inner_depth level.depth x)
      (greatest visit_depth (branch_visits (inner in_item level) x)))
      ≡ level.depth + branch_depth x
  branch_deep level in_item no_branch = omega arith
  branch_deep level in_item (branch xs) =
      omega (arith, forest_deep (inner in_item level) xs)

  pub forest_deep : (level : Level) (xs : Forest)
      → max level.depth (greatest visit_depth (forest_visits level xs)) ≡ level.depth + forest_depth xs
  forest_deep level no_nodes = omega arith
  forest_deep level (nodes_and x xs) =
      grind (arith, greatest-append, node_deep level x, forest_deep level xs)

-- ---- the visits of a text

pub text_asks : (a : At) → flat_map visit_asks (text_visits a) ≡ asked_names a
text_asks a = forest_names outermost_spot (as_forest (nodes a))

pub text_tells : (a : At) → flat_map visit_faults (text_visits a) ≡ text_faults a
text_tells a = forest_reported outermost_spot (as_forest (nodes a)) (nodes_whole a)

pub text_extent : (a : At)
    → greatest visit_extent (text_visits a) ≡ forest_extent (as_forest (nodes a))
text_extent a = forest_wide outermost_spot (as_forest (nodes a))

pub text_depth : (a : At)
    → greatest visit_depth (text_visits a) ≡ forest_depth (as_forest (nodes a))
text_depth a = omega (arith, forest_deep outermost_spot (as_forest (nodes a)))
