-- The tree of a text beside its pieces: neighbouring literals are one node, and every other piece is
-- a node of its own.
use Rattle.std.specs.Prelude.{◌≡◌, ℕ, ◌+◌, ◌<◌, Bool, true, false, ◌&&◌, IsFalse, ⊤, List, [], ◌∷◌}
use Rattle.std.specs.Prelude.{◌++◌, map, flat_map, Some}
use Rattle.std.specs.Char.{len_utf8}
use Rattle.interpolator_syntax.specs.Nodes.{Node, node, text_content, text_node, piece_node, nodes}
use Rattle.interpolator_syntax.specs.Nodes.{Branch, no_branch, branch, Forest, no_nodes, nodes_and}
use Rattle.interpolator_syntax.specs.declared.piece_kind.PieceKind.TheVariants.{Literal, Closed}
use Rattle.interpolator_syntax.specs.declared.piece_kind.PieceKind.TheVariants.{Unclosed}
use Rattle.interpolator_syntax.specs.{Places.At, Places.size, Pieces.Piece, Pieces.pieces}
use Rattle.interpolator_syntax.specs.declared.piece_kind.PieceKind.{PieceKind}

-- a piece as a node: that of an argument has the trees of its groups under it
abbrev pub node_alone : Piece → Node
node_alone x = piece_node nodes x.place (x.place + size x.text) x.kind

-- the pieces of a text, each as a node
abbrev pub nodes_alone : At → List Node
nodes_alone a = map node_alone (pieces a)

-- ---- neighbouring literals as one

-- literals from p up to `end` in front of nodes: they become one with the first of these, if that
-- is of literals too
abbrev pub with_literals : (p end : ℕ) → List ℕ → List Node → List Node
with_literals p end cs (node q last Literal (Some (text_content from ds)) item join ∷ xs) =
    text_node p last Literal (cs ++ ds) ∷ xs
with_literals p end cs xs = text_node p end Literal cs ∷ xs

-- a node in front of nodes
abbrev pub with_node : Node → List Node → List Node
with_node (node p end Literal (Some (text_content from cs)) item join) xs = with_literals p end cs xs
with_node x xs = x ∷ xs

-- nodes with neighbouring literals made one
abbrev pub join_literals : List Node → List Node
join_literals [] = []
join_literals (x ∷ xs) = with_node x (join_literals xs)

-- ---- and each literal by itself again

-- the characters from p on, each as a literal
abbrev pub literal_nodes : (p : ℕ) → List ℕ → List Node
literal_nodes p [] = []
literal_nodes p (c ∷ cs) =
    text_node p (p + len_utf8 c) Literal (c ∷ []) ∷ literal_nodes (p + len_utf8 c) cs

-- a node of literals becomes one for each of its characters, and any other stays as it is
abbrev pub split_node : Node → List Node
split_node (node p end Literal (Some (text_content from cs)) item join) = literal_nodes from cs
split_node x = x ∷ []

-- nodes, with each node of literals split so
abbrev pub split_again : List Node → List Node
split_again xs = flat_map split_node xs

-- ---- neighbours

-- a node of literals
abbrev pub is_literal : Node → Bool
is_literal (node p end Literal content item join) = true
is_literal x = false

-- the first of the nodes is one of literals
abbrev pub begins_literal : List Node → Bool
begins_literal [] = false
begins_literal (x ∷ xs) = is_literal x

-- no two neighbours are both of literals
abbrev pub NoTwoLiterals : List Node → Type 0
NoTwoLiterals [] = ⊤
NoTwoLiterals (x ∷ xs) = IsFalse (is_literal x && begins_literal xs) × NoTwoLiterals xs

-- ---- places

-- the first byte of a node
abbrev pub node_place : Node → ℕ
node_place (node p end kind content item join) = p

-- the byte after its last
abbrev pub node_end : Node → ℕ
node_end (node p end kind content item join) = end

-- an argument that was read, closed or not: no other node has groups
abbrev pub HasGroups : PieceKind → Type 0
HasGroups Closed = ⊤
HasGroups Unclosed = ⊤
HasGroups _ = ⊥

abbrev mutual
  -- nodes in order, each of at least one byte: the first begins at p, each other where the one
  -- before it ends, and the last ends at `end`; and the nodes of each group are in order too, in its
  -- node
  pub Contiguous : (p : ℕ) → Forest → (end : ℕ) → Type 0
  Contiguous p no_nodes end = p ≡ end
  Contiguous p (nodes_and x xs) end =
      (node_place x ≡ p) × (p < node_end x) × GroupsInside x × Contiguous (node_end x) xs end

  -- the nodes of each group of a node lie in it
  pub GroupsInside : Node → Type 0
  GroupsInside (node p end kind content item join) =
      GroupInside p end kind item × GroupInside p end kind join

  -- the nodes of one group, if there is one, are in order; it is a group of an argument that was
  -- read, after its first byte and before its last
  pub GroupInside : (p end : ℕ) → PieceKind → Branch → Type 0
  GroupInside p end kind no_branch = ⊤
  GroupInside p end kind (branch xs) =
      HasGroups kind
      × (from : ℕ) × (to : ℕ) × (p < from) × (to < end) × Contiguous from xs to
