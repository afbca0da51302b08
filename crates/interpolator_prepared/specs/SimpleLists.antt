-- The pieces of a list that has a step of its own.
use Rattle.std.specs.Prelude.{◌≡◌, ℕ, false, is_some, List, [], ◌∷◌, ◌++◌, IsSome}
use Rattle.std.specs.List.{All}
use Rattle.interpolator_syntax.specs.{Nodes.Node, declared.piece_kind.PieceKind.TheVariants.Closed}
use Rattle.interpolator_prepared.specs.Items.{ItemPart, characters, item_value, in_item, item_parts}
use Rattle.interpolator_prepared.specs.Items.{join_parts}
use Rattle.interpolator_prepared.specs.StoredSteps.{texts_placed}
use Rattle.interpolator_prepared.specs.declared.lists.ItemPieces.{ItemPieces}
use Rattle.interpolator_prepared.specs.declared.lists.ListPieces.{ListPieces}
use Rattle.interpolator_prepared.specs.declared.step.ValueSpec.{ValueSpec}
use Rattle.interpolator_pieces.specs.Stored.{branch_of, detail_of}
use Rattle.interpolator_pieces.specs.{StoredMeanings.stored_part, declared.piece.Piece.Piece}
use Rattle.interpolator_pieces.specs.declared.piece.Piece.TheViews.{out-Piece}

-- how an item is shown, as a part
abbrev pub shown_item : ValueSpec → ItemPart
shown_item asked = item_value Closed asked.slot asked.spec asked.end

-- a node is the item, shown so
abbrev pub IsItem : Node → ValueSpec → Type 0
IsItem x asked = in_item x ≡ shown_item asked ∷ []

module _ (bs : List ℕ) where
  abbrev pub Fit : List Piece → Type 0
  Fit xs = All (λ piece. IsSome (stored_part bs piece)) xs

  -- these are the parts of an item format: texts, the item, and texts
  pub record IsItems (parts : List ItemPart) (x : ItemPieces) : Type 0 where
    pub before : Fit x.before.now
    pub after : Fit x.after.now
    pub is :
        parts
        ≡ characters (texts_placed bs x.before.now)
        ++ (shown_item x.value ∷ characters (texts_placed bs x.after.now))

  -- these are the parts of a join: texts
  pub record IsJoin (parts : List ItemPart) (xs : List Piece) : Type 0 where
    pub fit : Fit xs
    pub is : parts ≡ characters (texts_placed bs xs)

  -- a list is closed, has no width, and is made of such parts
  pub record IsSimple (x : Piece) (pieces : ListPieces) : Type 0 where
    pub closed : (out-Piece x).kind ≡ Closed
    pub no_width : is_some (detail_of x).spec.width ≡ false
    pub items : IsItems (item_parts (branch_of bs (out-Piece x).item) (detail_of x).spec_end) pieces.item
    pub join : IsJoin (join_parts (branch_of bs (out-Piece x).join)) pieces.join.now
