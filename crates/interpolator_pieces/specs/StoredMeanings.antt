-- What stored pieces mean, in the words of the functions that write them.
use Rattle.std.specs.Prelude.{ℕ, List, Option, Some, None, codes}
use Rattle.interpolator_render.specs.{declared.view.Trait.Trait, declared.view.Spec.Spec}
use Rattle.interpolator_render.specs.Views.{Shown}
use Rattle.interpolator_syntax.specs.Faults.{Fault, parse, expected}
use Rattle.interpolator_syntax.specs.{Nodes.as_forest, declared.piece_kind.PieceKind.PieceKind}
use Rattle.interpolator_syntax.specs.declared.piece_kind.PieceKind.TheVariants.{Unclosed}
use Rattle.interpolator_eval.specs.Meaning.Environments.{Environment}
use Rattle.interpolator_eval.specs.Meaning.Meanings.{Meaning, node_means, forest_means}
use Rattle.interpolator_pieces.specs.Stored.{node_of, nodes_of, part, name_part, detail_of}
use Rattle.interpolator_pieces.specs.declared.{piece.Piece.Piece, piece.Piece.TheViews.out-Piece}

-- the text that is written for a stored piece, or the name of a stored argument, if it fits its
-- text
abbrev pub stored_part : List ℕ → Piece → Option (List ℕ)
stored_part bs x = part bs (detail_of x).from (detail_of x).to

-- the name of a stored argument, if it fits its text
abbrev pub stored_name : List ℕ → Piece → Option (List ℕ)
stored_name bs x = name_part bs (out-Piece x).place (detail_of x).from (detail_of x).to

-- the fault of an argument that is not closed: its brace is missing
abbrev pub unclosed_fault_of : PieceKind → (end : ℕ) → Option Fault
unclosed_fault_of Unclosed end = Some (parse (expected (codes "}") end))
unclosed_fault_of _ end = None

-- that fault of a stored piece
abbrev pub unclosed_fault : Piece → Option Fault
unclosed_fault x = unclosed_fault_of (out-Piece x).kind (detail_of x).spec_end

module _ {X : Type 0} (shows : X → Trait → Spec → Shown) (e : Environment X) (bs : List ℕ) where
  -- pieces in order
  abbrev pub stored_pieces_mean : List Piece → Meaning
  stored_pieces_mean xs = forest_means shows e (as_forest (nodes_of bs xs))

  -- one piece
  abbrev pub stored_piece_means : Piece → Meaning
  stored_piece_means x = node_means shows e (node_of bs x)
