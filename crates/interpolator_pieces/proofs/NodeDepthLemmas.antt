-- The pieces of a text are nested no deeper than it has characters.
use Rattle.std.proofs.Common.{◌≡◌, refl, arith, ℕ, ◌<◌, ◌≤◌, length, Option, Some, None}
use Rattle.interpolator_syntax.specs.Tokens.{Token, first_token, past_token, argument}
use Rattle.interpolator_syntax.specs.Nodes.{as_forest, group_branch, piece_node, token_node, nodes}
use Rattle.interpolator_syntax.specs.{Places.At, Groups.Group, Pieces.argument_from}
use Rattle.interpolator_syntax.proofs.SizeLemmas.{GroupIfIn}
use Rattle.interpolator_syntax.proofs.TokenLemmas.{token_shorter, scan_shorter}
use Rattle.interpolator_syntax.proofs.NodeLemmas.{by_length, argument_kind, nodes_first, nodes_none}
use Rattle.interpolator_pieces.specs.NodeExtents.{node_depth, branch_depth, forest_depth}

-- the pieces of a text are nested no deeper than it has characters
abbrev Shallow : At → Type 0
Shallow a = forest_depth (as_forest (nodes a)) ≤ length a.text

module _ (a : At) (shorter : (b : At) → length b.text < length a.text → Shallow b) where
  module _ (b : At) (l : length b.text < length a.text) where
    group_shallow : (o : Option Group) → GroupIfIn o b
        → branch_depth (group_branch nodes o) ≤ length a.text
    group_shallow o h = grind (arith, shorter)

    token_shallow : (p : ℕ) (t : Token) → node_depth (token_node nodes p t b) ≤ length a.text
    token_shallow p argument =
        let end = (argument_from b.place b).rest.place in
        argument_kind (λ k. node_depth (piece_node nodes p end k) ≤ length a.text) b
        (λ start x q h. grind (arith, group_shallow), λ f. omega arith)
    token_shallow p t = omega arith

  shallow_by : (o : Option (Token × At)) → first_token a ≡ o → Shallow a
  shallow_by None e = rw (nodes_none a e) (omega arith)
  shallow_by (Some w) e =
      let less = scan_shorter a _ w e refl in
      let after = shorter (past_token w.0 w.1) less in
      let first = token_shallow w.1 (token_shorter a w e) a.place w.0 in
      rw (nodes_first a w.1 w.0 e) (omega arith)

-- so it is with every text
pub nodes_shallow : (a : At) → forest_depth (as_forest (nodes a)) ≤ length a.text
nodes_shallow = by_length Shallow (λ a shorter. shallow_by a shorter (first_token a) refl)
