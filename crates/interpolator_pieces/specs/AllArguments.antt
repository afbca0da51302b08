-- The arguments of a text, with those of its groups at every depth.
use Rattle.std.specs.Prelude.{ℕ, zero, suc, List, [], ◌∷◌, ◌++◌, length, map, Option, None, Some}
use Rattle.interpolator_syntax.specs.SpecTexts.{Kind, of_value, of_list}
use Rattle.interpolator_syntax.specs.Pieces.{Piece, PieceKind, closed, unclosed, pieces}
use Rattle.interpolator_syntax.specs.{Places.At, Groups.Group, Groups.inside, Arguments.Argument}

-- `run` gives the arguments of a text within this one
module _ (run : At → List Argument) where
  -- the arguments of a group
  abbrev pub group_arguments : Option Group → List Argument
  group_arguments None = []
  group_arguments (Some g) = run (inside g)

  -- the arguments of an item format, and then those of the join
  abbrev pub kind_arguments : Kind → List Argument
  kind_arguments (of_value t) = []
  kind_arguments (of_list l) = group_arguments l.item ++ group_arguments l.join

  -- an argument, and then those of its groups
  abbrev pub argument_and_inner : Argument → List Argument
  argument_and_inner x = x ∷ kind_arguments x.kind

  -- the arguments of a piece: none, if it is broken or no argument
  abbrev pub piece_arguments : PieceKind → List Argument
  piece_arguments (closed start x end) = argument_and_inner x
  piece_arguments (unclosed start x end) = argument_and_inner x
  piece_arguments _ = []

  -- the arguments of the pieces, in order
  abbrev pub pieces_arguments : List Piece → List Argument
  pieces_arguments [] = []
  pieces_arguments (x ∷ xs) = piece_arguments x.kind ++ pieces_arguments xs

-- the arguments of a text whose groups are nested less than `depth` deep
abbrev pub arguments_within : (depth : ℕ) → At → List Argument
arguments_within zero a = []
arguments_within (suc depth) a = pieces_arguments (arguments_within depth) (pieces a)

-- the arguments of a text: a group is shorter than the text that it is in
unfoldable pub arguments_of : At → List Argument
arguments_of a = arguments_within (suc (length a.text)) a

-- the names of arguments
abbrev pub names_of : List Argument → List (List ℕ)
names_of xs = map (λ x. x.name) xs
