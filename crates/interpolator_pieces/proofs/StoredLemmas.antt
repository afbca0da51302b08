-- The node of a stored piece, one layer at a time.
use Rattle.std.proofs.Common.{arith, ◌≡◌, refl, ℕ, List, Option, Some, None, true, ◌+◌, ◌<◌, ◌≤◌}
use Rattle.std.proofs.Common.{length, drop, get_or}
use Rattle.std.proofs.lemmas.List.{drop_more, drop_all}
use Rattle.interpolator_syntax.specs.Nodes.{Forest, no_nodes, nodes_and, as_forest, Node, node}
use Rattle.interpolator_syntax.specs.declared.piece_kind.PieceKind.{PieceKind}
use Rattle.std.specs.Global.{Vec, Box}
use Rattle.interpolator_pieces.specs.Stored.{node_step, node_of, nodes_of, branch_of, content_of}
use Rattle.interpolator_pieces.specs.Stored.{bare_detail, detail_content, detail_of, detail_or_bare}
use Rattle.interpolator_pieces.specs.declared.piece.Piece.TheViews.{out-Piece, roll-Piece}
use Rattle.interpolator_pieces.specs.declared.piece.Piece.TheFolds.{fold-roll-Piece, fold_out-Piece}
use Rattle.interpolator_pieces.specs.{StoredLists.is_list_form, declared.piece.Detail.Detail}
use Rattle.interpolator_pieces.specs.declared.piece.Piece.{Piece}
use Rattle.interpolator_pieces.specs.declared.piece.Piece.TheOpen.{Piece-F}

-- the node of a piece that was made of its parts
pub node_of_roll :
    (bs : List ℕ) (x : Piece-F Piece) → node_of bs (roll-Piece x)
    ≡ node x.place x.end x.kind
    (detail_content bs x.place (detail_or_bare x.place x.end x.kind x.detail))
    (branch_of bs x.item) (branch_of bs x.join)
unfolding node_of
node_of_roll bs x = grind (arith, fold-roll-Piece Node (node_step bs) x)

-- the node of a piece, by its parts
pub node_of_out :
    (bs : List ℕ) (x : Piece) → node_of bs x
    ≡ node (out-Piece x).place (out-Piece x).end (out-Piece x).kind (content_of bs x)
    (branch_of bs (out-Piece x).item) (branch_of bs (out-Piece x).join)
unfolding node_of
node_of_out bs x = grind (arith, fold_out-Piece Node (node_step bs) x)

-- the detail of a piece that stores one, and of one that does not
module _ (x : Piece) where
  pub detail_kept : (b : Box Detail) → (out-Piece x).detail ≡ Some b → detail_of x ≡ b.value
  unfolding detail_or_bare
  detail_kept b is = rw is refl

  pub detail_bare : (out-Piece x).detail ≡ None
      → detail_of x ≡ bare_detail (out-Piece x).place (out-Piece x).end (out-Piece x).kind
  unfolding detail_or_bare
  detail_bare is = rw is refl

-- a piece without one asks for no list
pub no_bare_list : (x : Piece) → is_list_form (detail_of x).form ≡ true
    → (out-Piece x).detail ≡ None → ⊥
no_bare_list x listed is = grind (arith, detail_bare)

-- the node of a piece that was made without a detail, and of one that was made with this one
module _ (bs : List ℕ) (place end : ℕ) (kind : PieceKind) (item join : Option (Vec Piece)) where
  abbrev Made : Option (Box Detail) → Node
  Made detail =
      node_of bs (roll-Piece (record {
        place = place;
        end = end;
        kind = kind;
        item = item;
        join = join;
        detail = detail;
      }))

  abbrev Is : Detail → Node
  Is d = node place end kind (detail_content bs place d) (branch_of bs item) (branch_of bs join)

  pub made_bare : Made None ≡ Is (bare_detail place end kind)
  unfolding detail_or_bare
  made_bare = node_of_roll bs _

  pub made_detailed : (d : Box Detail) → Made (Some d) ≡ Is d.value
  unfolding detail_or_bare
  made_detailed d = node_of_roll bs _

-- the nodes of the pieces that are left: that of the first and those of the others, or none
module _ (bs : List ℕ) (xs : List Piece) where
  abbrev pub left : ℕ → Forest
  left n = as_forest (nodes_of bs (drop n xs))

  pub left_next : (i : ℕ) (x : Piece) → i < length xs → x ≡ get_or xs i x
      → left i ≡ nodes_and (node_of bs x) (left (i + 1))
  left_next i x l is =
      grind (arith, drop_more xs i x l)

  pub left_none : (i : ℕ) → length xs ≤ i → left i ≡ no_nodes
  left_none i l = grind (arith, drop_all)
