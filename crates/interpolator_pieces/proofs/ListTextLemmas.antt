-- The pieces of a format from its first list on.
use Rattle.std.proofs.Common.{◌≡◌, ◌∙◌, sym, ap, refl, arith, ℕ, ◌+◌, List, [], length, true, Some}
use Rattle.std.proofs.Common.{IsSome, append-nil, chars, IsUtf8, ◌⊎◌, inl, inr}
use Rattle.interpolator_syntax.specs.{Places.outermost, Places.size, Nodes.as_forest, Nodes.nodes}
use Rattle.interpolator_syntax.proofs.CharacterLemmas.{size-chars}
use Rattle.interpolator_syntax.proofs.LocalityLemmas.{size-append, stands}
use Rattle.interpolator_eval.specs.Meaning.ScannedLists.{ListAt, text_forest}
use Rattle.interpolator_eval.specs.Meaning.Sources.{from_list}
use Rattle.interpolator_pieces.specs.Stored.{StandFor, Within, forest_whole, nodes_of, part}
use Rattle.interpolator_pieces.specs.declared.piece.Piece.{Piece}
use Rattle.interpolator_pieces.proofs.{PartLemmas.part_lies, WholeLemmas.nodes_whole}

module _ (bs : List ℕ) (utf8 : IsUtf8 bs) (place : ℕ)
    (list : ListAt (outermost (chars bs)) place) where
  within : Within (outermost (chars bs)) (stands place list.back)
  within = record {
    front = list.front;
    back = [];
    split = rw append-nil list.split;
    place = list.after;
  }

  ends : length bs ≡ place + size list.back
  ends =
      let whole = ap size list.split ∙ size-append list.front list.back in
      omega (arith, whole, size-chars bs utf8, list.after)

  rest_cut : part bs place (length bs) ≡ Some list.back
  rest_cut = part_lies bs place list.back (length bs) utf8 within ends

  -- the format may be cut there
  pub rest_fits : IsSome (part bs place (length bs))
  rest_fits = rw rest_cut refl

  module _ (rest : List ℕ) (is : Some rest ≡ part bs place (length bs)) (xs : List Piece)
      (stand : StandFor xs (stands place rest)) where
    nodes_there : nodes_of bs xs ≡ nodes (stands place list.back)
    nodes_there = grind (arith, rest_cut, within)

    -- the pieces read from there on are those from the list on
    pub rest_stands : as_forest (nodes_of bs xs) ≡ from_list (text_forest (outermost (chars bs)))
    rest_stands = ap as_forest nodes_there ∙ sym list.left

    -- and they fit it
    pub rest_fit : forest_whole (as_forest (nodes_of bs xs)) ≡ true
    rest_fit = rw nodes_there (nodes_whole (stands place list.back))

-- what is written, or that there was no memory
pub or_else : {A B C : Type 0} → (A → B) → A ⊎ C → B ⊎ C
or_else f (inl a) = inl (f a)
or_else f (inr c) = inr c
