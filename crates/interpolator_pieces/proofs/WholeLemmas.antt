-- All that the pieces of a text hold fits it.
use Rattle.std.proofs.Common.{◌≡◌, ℕ, ◌<◌, true, length, refl, Option, Some, None, arith}
use Rattle.interpolator_syntax.specs.Tokens.{Token, first_token, past_token, argument}
use Rattle.interpolator_syntax.specs.Nodes.{as_forest, group_branch, piece_node, token_node, nodes}
use Rattle.interpolator_syntax.specs.{Places.At, Groups.Group, Pieces.argument_from}
use Rattle.interpolator_pieces.specs.Stored.{node_whole, branch_whole, forest_whole}
use Rattle.interpolator_syntax.proofs.TokenLemmas.{token_shorter, scan_shorter}
use Rattle.interpolator_syntax.proofs.NodeLemmas.{by_length, argument_kind, nodes_first, nodes_none}
use Rattle.interpolator_syntax.proofs.SizeLemmas.{GroupIfIn}

abbrev Whole : At → Type 0
Whole a = forest_whole (as_forest (nodes a)) ≡ true

module _ (a : At) (shorter : (b : At) → length b.text < length a.text → Whole b) where
  module _ (b : At) (l : length b.text < length a.text) where
    group_whole : (o : Option Group) → GroupIfIn o b → branch_whole (group_branch nodes o) ≡ true
    group_whole o h = grind (arith, shorter)

    token_whole : (p : ℕ) (t : Token) → node_whole (token_node nodes p t b) ≡ true
    token_whole p argument =
        let end = (argument_from b.place b).rest.place in
        argument_kind (λ k. node_whole (piece_node nodes p end k) ≡ true) b
        (λ start x q h. grind (arith, group_whole), λ f. refl)
    token_whole p t = refl

  whole_by : (o : Option (Token × At)) → first_token a ≡ o → Whole a
  whole_by None e = rw (nodes_none a e) refl
  whole_by (Some w) e =
      rw (nodes_first a w.1 w.0 e, token_whole w.1 (token_shorter a w e) a.place w.0)
      (shorter (past_token w.0 w.1) (scan_shorter a _ w e refl))

-- all that is stored of the pieces of a text fits it
pub nodes_whole : (a : At) → forest_whole (as_forest (nodes a)) ≡ true
nodes_whole = by_length Whole (λ a shorter. whole_by a shorter (first_token a) refl)
