-- The names that a text uses, as a relation: those of its arguments, and of the arguments in their
-- groups, at any depth.
use Rattle.std.specs.Prelude.{◌≡◌, ℕ, zero, suc, Bool, true, false, List, [], ◌∷◌, ◌++◌, filter}
use Rattle.std.specs.Prelude.{Option, None, Some}
use Rattle.interpolator_syntax.specs.SpecTexts.{Kind, of_value, of_list}
use Rattle.interpolator_syntax.specs.Pieces.{Piece, PieceKind, closed, unclosed, pieces}
use Rattle.interpolator_syntax.specs.{Places.At, Groups.Group, Groups.inside, Arguments.Argument}

-- a name that is not empty
abbrev pub is_named : List ℕ → Bool
is_named [] = false
is_named (c ∷ cs) = true

-- `Asks` says which names a text within this one uses, in order
module _ (Asks : At → List (List ℕ) → Type 0) where
  -- the names of a group, if there is one
  abbrev pub GroupAsks : Option Group → List (List ℕ) → Type 0
  GroupAsks None names = names ≡ []
  GroupAsks (Some g) names = Asks (inside g) names

  -- for a list: the names of the item format that are not empty, and after them those of the join
  abbrev pub KindAsks : Kind → List (List ℕ) → Type 0
  KindAsks (of_value t) names = names ≡ []
  KindAsks (of_list l) names =
      (of_items : List (List ℕ)) × (of_join : List (List ℕ)) × GroupAsks l.item of_items
      × GroupAsks l.join of_join × (names ≡ filter is_named of_items ++ of_join)

  -- the name of an argument, and after it those of its groups
  abbrev pub ArgumentAsks : Argument → List (List ℕ) → Type 0
  ArgumentAsks x names =
      (of_groups : List (List ℕ)) × KindAsks x.kind of_groups × (names ≡ x.name ∷ of_groups)

  -- the names of a closed or an unclosed argument; no other piece uses a name
  abbrev pub PieceAsks : PieceKind → List (List ℕ) → Type 0
  PieceAsks (closed start x end) names = ArgumentAsks x names
  PieceAsks (unclosed start x end) names = ArgumentAsks x names
  PieceAsks _ names = names ≡ []

  -- the names of the pieces, in order
  abbrev pub PiecesAsk : List Piece → List (List ℕ) → Type 0
  PiecesAsk [] names = names ≡ []
  PiecesAsk (x ∷ xs) names =
      (of_first : List (List ℕ)) × (of_rest : List (List ℕ)) × PieceAsks x.kind of_first
      × PiecesAsk xs of_rest × (names ≡ of_first ++ of_rest)

-- the names of a text in which groups are nested less than `depth` deep
abbrev pub AsksWithin : (depth : ℕ) → At → List (List ℕ) → Type 0
AsksWithin zero a names = ⊥
AsksWithin (suc depth) a names = PiecesAsk (AsksWithin depth) (pieces a) names

-- the text uses these names, in order
abbrev pub AsksNames : At → List (List ℕ) → Type 0
AsksNames a names = (depth : ℕ) × AsksWithin depth a names
