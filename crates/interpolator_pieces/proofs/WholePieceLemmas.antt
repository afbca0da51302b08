-- What is known of a stored piece that fits its text, of pieces in order, and of the groups of one.
use denote.Param.Weighed.{most}
use Rattle.std.proofs.Common.{◌≡◌, refl, ap, arith, ℕ, zero, suc, ◌<◌, ◌≤◌, Bool, true, ◌&&◌}
use Rattle.std.proofs.Common.{List, [], ◌∷◌, ◌++◌, length, drop, get_or, Option, None, Some, IsSome}
use Rattle.std.proofs.lemmas.List.{drop_more}
use Rattle.std.specs.Global.{Vec}
use Rattle.interpolator_syntax.specs.Nodes.{Node, as_forest}
use Rattle.interpolator_pieces.specs.Stored.{content_of, node_of, nodes_of, branch_of}
use Rattle.interpolator_pieces.specs.Stored.{node_whole, branch_whole, forest_whole}
use Rattle.interpolator_pieces.specs.declared.piece.Piece.{Piece}
use Rattle.interpolator_pieces.specs.declared.piece.Piece.TheViews.{out-Piece, size-Piece}
use Rattle.interpolator_pieces.specs.declared.piece.Piece.TheViews.{size_is-Piece}
use Rattle.interpolator_pieces.proofs.StoredLemmas.{node_of_out}

-- the piece holds something, and its groups fit its text too
pub record FitsText (bs : List ℕ) (x : Piece) : Type 0 where
  pub held : IsSome (content_of bs x)
  pub item : branch_whole (branch_of bs (out-Piece x).item) ≡ true
  pub join : branch_whole (branch_of bs (out-Piece x).join) ≡ true

pub both : (a b : Bool) → (a && b) ≡ true → (a ≡ true) × (b ≡ true)
both a b h = grind arith

pub fits_text : (bs : List ℕ) (x : Piece) → node_whole (node_of bs x) ≡ true → FitsText bs x
fits_text bs x h = grind (arith, both, node_of_out)

-- if pieces fit their text, the last of them do
pub rest_fits :
    (xs ys : List Node) → forest_whole (as_forest (xs ++ ys)) ≡ true
    → forest_whole (as_forest ys) ≡ true
rest_fits [] ys h = h
rest_fits (x ∷ xs) ys h = grind (arith, both, rest_fits xs ys)

-- so it is with stored pieces after the first ones
pub pieces_whole :
    (bs : List ℕ) (xs : List Piece) (n : ℕ) → forest_whole (as_forest (nodes_of bs xs)) ≡ true
    → forest_whole (as_forest (nodes_of bs (drop n xs))) ≡ true
pieces_whole bs xs zero h = h
pieces_whole bs [] (suc n) h = refl
pieces_whole bs (x ∷ xs) (suc n) h = grind (arith, both, pieces_whole bs xs n)

-- and with each stored piece
pub piece_whole :
    (bs : List ℕ) (xs : List Piece) (i : ℕ) (x : Piece)
    → forest_whole (as_forest (nodes_of bs xs)) ≡ true → i < length xs → x ≡ get_or xs i x
    → node_whole (node_of bs x) ≡ true
piece_whole bs xs i x h l is = grind (arith, pieces_whole bs xs i h, drop_more xs i x l)

-- none is greater than the greatest
pub most_at :
    {X : Type 0} (size : X → ℕ) (xs : List X) (i : ℕ) (x : X) → i < length xs
    → x ≡ get_or xs i x → size x ≤ most size xs
most_at size [] i x l is = absurd (omega arith)
most_at size (y ∷ ys) zero x l is = let same : size x ≡ size y = ap size is in omega (arith, same)
most_at size (y ∷ ys) (suc i) x l is = omega (arith, most_at size ys i x (omega arith) is)

-- the pieces of a group
pub group_whole :
    (bs : List ℕ) (group : Option (Vec Piece)) (v : Vec Piece) (xs : List Piece)
    → branch_whole (branch_of bs group) ≡ true → group ≡ Some v → xs ≡ v.items
    → forest_whole (as_forest (nodes_of bs xs)) ≡ true
group_whole bs group v xs h is same = grind arith

-- the size of the greatest piece of a group
abbrev pub group_most : Option (Vec Piece) → ℕ
group_most None = 0
group_most (Some v) = most size-Piece v.items

module _ (x : Piece) where
  -- a group is smaller than its piece
  pub item_smaller : group_most (out-Piece x).item < size-Piece x
  item_smaller = grind (arith, size_is-Piece)

  pub join_smaller : group_most (out-Piece x).join < size-Piece x
  join_smaller = grind (arith, size_is-Piece)

-- the pieces of a group are no greater than it
pub group_smaller : (group : Option (Vec Piece)) (v : Vec Piece) (xs : List Piece)
    → group ≡ Some v → xs ≡ v.items → most size-Piece xs ≡ group_most group
group_smaller group v xs is same = grind arith

-- the pieces of a group of a piece: they fit the text, and are smaller than the piece
pub record InGroup (bs : List ℕ) (x : Piece) (xs : List Piece) : Type 0 where
  pub whole : forest_whole (as_forest (nodes_of bs xs)) ≡ true
  pub smaller : most size-Piece xs < size-Piece x

module _ (bs : List ℕ) (x : Piece) (v : Vec Piece) (xs : List Piece) (same : xs ≡ v.items)
    (h : node_whole (node_of bs x) ≡ true) where
  pub in_item : (out-Piece x).item ≡ Some v → InGroup bs x xs
  in_item is =
      grind (arith, fits_text bs x h, item_smaller x, group_smaller (out-Piece x).item v xs is same)

  pub in_join : (out-Piece x).join ≡ Some v → InGroup bs x xs
  in_join is =
      grind (arith, fits_text bs x h, join_smaller x, group_smaller (out-Piece x).join v xs is same)
