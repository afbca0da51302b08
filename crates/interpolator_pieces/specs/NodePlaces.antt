-- Which argument of a format has a place.
use Rattle.std.specs.Prelude.{◌≡◌, ◌⊎◌, ℕ, Bool, true, false, not, ◌&&◌, nat_lt, if◌then◌else◌}
use Rattle.std.specs.Prelude.{Option, None, Some, unwrap_or}
use Rattle.std.specs.Option.{option_or}
use Rattle.interpolator_syntax.specs.Nodes.{Node, node, Branch, no_branch, branch}
use Rattle.interpolator_syntax.specs.Nodes.{Forest, no_nodes, nodes_and}
use Rattle.interpolator_syntax.specs.Splits.{node_place, node_end}
use Rattle.interpolator_syntax.specs.declared.piece_kind.PieceKind.{PieceKind}
use Rattle.interpolator_syntax.specs.declared.piece_kind.PieceKind.TheVariants.{Closed, Unclosed}
use Rattle.interpolator_syntax.specs.declared.piece_kind.PieceKind.TheVariants.{Broken}

-- whether a piece from `from` up to `end` is an argument that has a place: one after its opening
-- brace, up to its closing brace; or, if it is not closed, up to and including its end
abbrev pub has_place : (place from end : ℕ) → PieceKind → Bool
has_place place from end Closed = nat_lt from place && nat_lt place end
has_place place from end Unclosed = nat_lt from place && not (nat_lt end place)
has_place place from end Broken = nat_lt from place && not (nat_lt end place)
has_place place from end _ = false

-- whether a node has a place
abbrev pub node_has : ℕ → Node → Bool
node_has place (node from end kind content item join) = has_place place from end kind

abbrev mutual
  -- the innermost argument that has a place, in a node that has it: one in its groups, or itself
  pub innermost : ℕ → Node → ℕ × ℕ
  innermost place (node from end kind content item join) =
      unwrap_or (option_or (argument_in place item) (argument_in place join)) (from, end)

  -- the innermost argument that has a place, in a group, if there is one
  pub argument_in : ℕ → Branch → Option (ℕ × ℕ)
  argument_in place no_branch = None
  argument_in place (branch xs) = argument_among place xs

  -- the innermost argument that has a place, among nodes, if there is one: its first byte, and the
  -- byte after its last
  pub argument_among : ℕ → Forest → Option (ℕ × ℕ)
  argument_among place no_nodes = None
  argument_among place (nodes_and x xs) =
      if node_has place x then Some (innermost place x) else argument_among place xs

-- ---- in words of the arguments

abbrev mutual
  -- a node is one of these, or in a group of one of them, at any depth
  pub InForest : Node → Forest → Type 0
  InForest n no_nodes = ⊥
  InForest n (nodes_and x xs) = (n ≡ x) ⊎ InGroups n x ⊎ InForest n xs

  -- a node is in the item format or in the join of another, at any depth
  pub InGroups : Node → Node → Type 0
  InGroups n (node from end kind content item join) = InBranch n item ⊎ InBranch n join

  -- a node is in a group, at any depth
  pub InBranch : Node → Branch → Type 0
  InBranch n no_branch = ⊥
  InBranch n (branch xs) = InForest n xs

-- the bytes are those of an argument that has the place, while none in its groups has it
pub record IsInnermost (place : ℕ) (xs : Forest) (bytes : ℕ × ℕ) : Type 0 where
  pub argument : Node
  pub there : InForest argument xs
  pub has : node_has place argument ≡ true
  pub bytes_are : (node_place argument, node_end argument) ≡ bytes
  pub alone : (x : Node) → InGroups x argument → node_has place x ≡ false
