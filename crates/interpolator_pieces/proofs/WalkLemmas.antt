-- Visits, one after another, and how deep stored pieces are.
use Rattle.std.proofs.Common.{◌≡◌, refl, arith, ℕ, ◌+◌, ◌^◌, ◌<◌, ◌≤◌, List, [], ◌∷◌, ◌++◌, length}
use Rattle.std.proofs.Common.{get_or, inl, inr, Result, Ok, Err, Option, Some}
use Rattle.std.proofs.lemmas.List.Recursion.{max_bounds}
use Rattle.std.specs.{Prelude.max, Global.Vec}
use Rattle.interpolator_syntax.specs.Nodes.{as_forest}
use Rattle.interpolator_pieces.specs.NodeExtents.{node_depth, branch_depth, forest_depth}
use Rattle.interpolator_pieces.specs.Stored.{node_of, nodes_of, branch_of}
use Rattle.interpolator_pieces.specs.Visits.{Visit, Walks}
use Rattle.interpolator_pieces.specs.declared.{piece.Piece.Piece, piece.Piece.TheViews.out-Piece}
use Rattle.interpolator_pieces.proofs.StoredLemmas.{node_of_out, left}

-- ---- visits, and others after them

module _ {V E : Type 0} (step : V → Visit → V → Result (Unit {0}) E → Type 0) where
  -- one visit
  pub walks_one : (old new : V) (x : Visit) (answer : Result (Unit {0}) E) → step old x new answer
      → Walks step old (x ∷ []) new answer
  walks_one old new x answer h = grind arith

  -- one visit, and others
  pub walks_then : (old mid new : V) (x : Visit) (xs : List Visit) (answer : Result (Unit {0}) E)
      → step old x mid (Ok tt) → Walks step mid xs new answer → Walks step old (x ∷ xs) new answer
  walks_then old mid new x xs answer s h = grind arith

  -- a walk that stops at one of the first visits
  pub walks_stop : (old new : V) (xs ys : List Visit) (e : E) → Walks step old xs new (Err e)
      → Walks step old (xs ++ ys) new (Err e)
  walks_stop old new [] ys e h = let wrong = h.1 in absurd (cc)
  walks_stop old new (x ∷ xs) ys e (inl h) = inl h
  walks_stop old new (x ∷ xs) ys e (inr (mid, (s, h))) = grind (arith, walks_stop mid new xs ys e h)

  -- a walk that makes the first visits, and goes on
  pub walks_on : (old mid new : V) (xs ys : List Visit) (answer : Result (Unit {0}) E)
      → Walks step old xs mid (Ok tt) → Walks step mid ys new answer
      → Walks step old (xs ++ ys) new answer
  walks_on old mid new [] ys answer h k = grind arith
  walks_on old mid new (x ∷ xs) ys answer (inl h) k = let wrong = h.1 in absurd (cc)
  walks_on old mid new (x ∷ xs) ys answer (inr (next, (s, h))) k =
      grind (arith, walks_on next mid new xs ys answer h k)

  -- a visitor that makes these visits from here has made all of those from there
  abbrev pub WalksOn : (here : V) → List Visit → (there : V) → List Visit → Type 0
  WalksOn here left there all =
      (new : V) (answer : Result (Unit {0}) E) → Walks step here left new answer
      → Walks step there all new answer

-- ---- how deep a stored piece is

pub piece_depth : (bs : List ℕ) (x : Piece) → node_depth (node_of bs x)
    ≡ max (branch_depth (branch_of bs (out-Piece x).item))
    (branch_depth (branch_of bs (out-Piece x).join))
piece_depth bs x = grind (arith, node_of_out)

-- no piece is deeper than all of them
pub piece_within : (bs : List ℕ) (xs : List Piece) (i : ℕ) (x : Piece) → i < length xs
    → x ≡ get_or xs i x → node_depth (node_of bs x) ≤ forest_depth (as_forest (nodes_of bs xs))
piece_within bs xs i x l is =
    rw is (max_bounds (λ ys. forest_depth (as_forest (nodes_of bs ys)))
    (λ y. node_depth (node_of bs y)) refl (λ y ys. refl) xs i x l)

-- the pieces of a group
pub group_fits : (depth : ℕ) (bs : List ℕ) (group : Option (Vec Piece)) (v : Vec Piece)
    (xs : List Piece) → depth + branch_depth (branch_of bs group) < 2 ^ 64 → group ≡ Some v → xs ≡ v.items
    → (depth + 1) + forest_depth (as_forest (nodes_of bs xs)) < 2 ^ 64
group_fits depth bs group v xs h is same = grind arith
