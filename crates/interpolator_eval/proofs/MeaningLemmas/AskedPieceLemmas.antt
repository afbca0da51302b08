-- The names that a text uses are those of its pieces.
use Rattle.std.proofs.Common.{arith, ◌≡◌, ℕ, ◌+◌, true, false, List, [], ◌∷◌, ◌++◌, map, refl, ap}
use Rattle.std.proofs.Common.{Option}
use Rattle.std.specs.Char.{len_utf8}
use Rattle.interpolator_syntax.specs.Nodes.{Node, node, Branch, no_branch, branch, as_forest}
use Rattle.interpolator_syntax.specs.Nodes.{Forest, no_nodes, nodes_and, nodes, group_branch}
use Rattle.interpolator_syntax.specs.Nodes.{item_branch, join_branch, Content}
use Rattle.interpolator_syntax.specs.{Places.At, Groups.Group, Pieces.Piece, Pieces.pieces}
use Rattle.interpolator_syntax.specs.{SpecTexts.Kind, Splits.literal_nodes, Splits.node_alone}
use Rattle.interpolator_syntax.proofs.SplitLemmas.{gathered_alone}
use Rattle.interpolator_eval.specs.Meaning.AskedNames.{content_names, node_asks, branch_asks}
use Rattle.interpolator_eval.specs.Meaning.AskedNames.{forest_asks, asked_names, without_empty}

-- ---- in an item format the empty name is left out

pub without_append : (xs ys : List (List ℕ))
    → without_empty (xs ++ ys) ≡ without_empty xs ++ without_empty ys
without_append [] ys = refl
without_append (x ∷ xs) ys = grind (arith, without_append xs ys)

pub without_twice : (xs : List (List ℕ)) → without_empty (without_empty xs) ≡ without_empty xs
without_twice [] = refl
without_twice (x ∷ xs) = grind (arith, without_twice xs)

content_in_item : (h : Option Content)
    → content_names true h ≡ without_empty (content_names false h)
content_in_item h = grind arith

mutual
  node_in_item : (x : Node) → node_asks true x ≡ without_empty (node_asks false x)
  node_in_item (node place end kind held item join) =
      let item_names = branch_in_item item in let join_names = branch_in_item join in
      grind (arith, without_append, without_twice, content_in_item, item_names, join_names)

  pub branch_in_item : (b : Branch) → branch_asks true b ≡ without_empty (branch_asks false b)
  branch_in_item no_branch = refl
  branch_in_item (branch xs) = forest_in_item xs

  forest_in_item : (xs : Forest) → forest_asks true xs ≡ without_empty (forest_asks false xs)
  forest_in_item no_nodes = refl
  forest_in_item (nodes_and x xs) =
      grind (arith, node_in_item x, forest_in_item xs, without_append)

-- ---- the pieces of a text

-- the names of a group
abbrev pub group_asks : Option Group → List (List ℕ)
group_asks o = branch_asks false (group_branch nodes o)

-- those of an argument's kind
abbrev pub kind_asks : Kind → List (List ℕ)
kind_asks k = branch_asks true (item_branch nodes k) ++ branch_asks false (join_branch nodes k)

-- those of pieces, each by itself
abbrev pub pieces_ask : List Piece → List (List ℕ)
pieces_ask xs = forest_asks false (as_forest (map node_alone xs))

-- literals use no names, as one node or as many
literals_ask : (p : ℕ) (cs : List ℕ) (xs : List Node)
    → forest_asks false (as_forest xs) ≡ forest_asks false (as_forest (literal_nodes p cs ++ xs))
literals_ask p [] xs = refl
literals_ask p (c ∷ cs) xs = literals_ask (p + len_utf8 c) cs xs

-- the names that a text uses are those of its pieces
pub asked_pieces : (a : At) → asked_names a ≡ pieces_ask (pieces a)
asked_pieces a =
    gathered_alone (λ xs. forest_asks false (as_forest xs))
    (λ x xs ys h. ap (λ names. node_asks false x ++ names) h)
    (λ p end cs xs. literals_ask p cs xs) a
