-- Groups whose items are displayed plainly, and joins that are text, as stored pieces.
use Rattle.std.proofs.Common.{◌≡◌, [], ◌∷◌, List, ℕ, suc, IfSome, None, Option, Some, arith, refl}
use Rattle.std.proofs.Common.{option_map}
use Rattle.interpolator_syntax.specs.{Groups.Group, Groups.group_of, Nodes.as_forest, Nodes.branch}
use Rattle.interpolator_syntax.specs.declared.group.Group as code_group
use Rattle.interpolator_syntax.specs.declared.piece_kind.PieceKind.TheVariants.{Closed, Literal}
use Rattle.interpolator_eval.specs.Meaning.Sources.{IsBare, IsFramed, IsRun, IsText, RunFirst}
use Rattle.interpolator_pieces.specs.Stored.{StandsAlone, detail_of, node_of, nodes_of}
use Rattle.interpolator_pieces.specs.StoredMeanings.{stored_name, stored_part}
use Rattle.interpolator_pieces.specs.declared.{piece.Piece.Piece, piece.Piece.TheViews.out-Piece}
use Rattle.interpolator_pieces.proofs.StoredLemmas.{detail_bare, node_of_out}

-- a piece of a text, without a detail and without groups
module _ (bs : List ℕ) (x : Piece) (alone : StandsAlone x) where
  -- if it is an argument without a name
  pub bare_piece_is : (out-Piece x).kind ≡ Closed → stored_name bs x ≡ Some []
      → IsBare (detail_of x).spec_end (node_of bs x)
  bare_piece_is kind name = record {
    place = (out-Piece x).place;
    last = (out-Piece x).end;
    start = suc (out-Piece x).place;
    is = grind (arith, node_of_out, detail_bare, alone, kind, name);
  }

  -- if it is text
  pub text_piece_is : (cs : List ℕ) → (out-Piece x).kind ≡ Literal → stored_part bs x ≡ Some cs
      → IsRun (record { place = (out-Piece x).place; text = cs }) (node_of bs x)
  text_piece_is cs kind text = record {
    last = (out-Piece x).end;
    is = grind (arith, node_of_out, detail_bare, alone, kind, text);
  }

-- pieces of a text
module _ (bs : List ℕ) where
  -- a text first, and the pieces after it
  pub text_is_first :
      (x : Piece) (rest all : List Piece) (g : Group) → all ≡ x ∷ rest → IsRun g (node_of bs x)
      → RunFirst (Some g) (as_forest (nodes_of bs rest)) (as_forest (nodes_of bs all))
  text_is_first x rest all g split run = (node_of bs x, run, rw split refl)

  -- a text if there is one, an argument, and a text after it if there is one
  pub pieces_framed :
      (all rest behind left : List Piece) (x : Piece) (q : ℕ) (before after : Option Group)
      → RunFirst before (as_forest (nodes_of bs rest)) (as_forest (nodes_of bs all))
      → rest ≡ x ∷ behind → IsBare q (node_of bs x)
      → RunFirst after (as_forest (nodes_of bs left)) (as_forest (nodes_of bs behind)) → left ≡ []
      → IsFramed before q after (branch (as_forest (nodes_of bs all)))
  pieces_framed all rest behind left x q before after front split bare back none = record {
    all = as_forest (nodes_of bs all);
    rest = as_forest (nodes_of bs rest);
    is = refl;
    front = front;
    bare = record {
      argument = node_of bs x;
      back = as_forest (nodes_of bs behind);
      bare = bare;
      is = rw split refl;
      behind = rw none at back;
    };
  }

  -- pieces that are one text
  pub pieces_text :
      (all left : List Piece) (o : Option code_group.Group)
      → RunFirst (option_map group_of o) (as_forest (nodes_of bs left))
      (as_forest (nodes_of bs all)) → left ≡ []
      → IfSome o (λ g. IsText (group_of g) (branch (as_forest (nodes_of bs all))))
  pieces_text all left None first none = tt
  pieces_text all left (Some g) (x, run, is) none =
      record { last = run.last; is = rw (is, run.is, none) refl }
