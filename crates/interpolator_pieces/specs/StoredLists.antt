-- The list with which stored pieces begin, if they begin with one.
use Rattle.std.specs.Prelude.{ℕ, suc, List, [], ◌∷◌, Bool, true, false, Option, None, Some}
use Rattle.std.specs.Prelude.{if◌then◌else◌}
use Rattle.interpolator_syntax.specs.Nodes.{Forest, as_forest, no_branch}
use Rattle.interpolator_syntax.specs.{SpecTexts.plain_spec, declared.range.Range.Range}
use Rattle.interpolator_eval.specs.Meaning.Sources.{ListArgument, has_brace}
use Rattle.interpolator_pieces.specs.Stored.{branch_of, detail_of, nodes_of}
use Rattle.interpolator_pieces.specs.{StoredMeanings.stored_name, declared.piece.Form.Form}
use Rattle.interpolator_pieces.specs.declared.piece.Form.TheVariants as forms
use Rattle.interpolator_pieces.specs.declared.{piece.Piece.Piece, piece.Piece.TheViews.out-Piece}

-- whether a piece is written as a list
abbrev pub is_list_form : Form → Bool
is_list_form (forms.List range) = true
is_list_form _ = false

-- whether the first of some pieces is
abbrev pub begins_list : List Piece → Bool
begins_list [] = false
begins_list (x ∷ xs) = is_list_form (detail_of x).form

-- which items of a list are written: all, unless the form of the piece has a range
abbrev pub range_asked : Form → Option Range
range_asked (forms.List range) = range
range_asked _ = None

-- the name if it fits its text, or the empty name
abbrev pub name_or_none : Option (List ℕ) → List ℕ
name_or_none (Some name) = name
name_or_none None = []

-- the list that the first piece asks for
abbrev pub stored_list : List ℕ → List Piece → ListArgument
stored_list bs [] = record {
  start = 0;
  name = [];
  range = None;
  spec = plain_spec;
  end = 0;
  item = no_branch;
  join = no_branch;
}
stored_list bs (x ∷ xs) = record {
  start = suc (out-Piece x).place;
  name = name_or_none (stored_name bs x);
  range = range_asked (detail_of x).form;
  spec = (detail_of x).spec;
  end = (detail_of x).spec_end;
  item = branch_of bs (out-Piece x).item;
  join = branch_of bs (out-Piece x).join;
}

-- the pieces after it if it is closed, or none
abbrev pub stored_rest : List ℕ → List Piece → Option Forest
stored_rest bs [] = None
stored_rest bs (x ∷ xs) =
    if has_brace (out-Piece x).kind then Some (as_forest (nodes_of bs xs)) else None
