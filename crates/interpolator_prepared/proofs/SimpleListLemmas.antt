-- The pieces of a list that has a step of its own.
use Rattle.std.proofs.Common.{◌≡◌, ◌∙◌, refl, sym, ap, arith, ℕ, ◌+◌, ◌-◌, ◌≤◌, nat_lt, true, List}
use Rattle.std.proofs.Common.{[], ◌∷◌, ◌++◌, length, take, drop, Option, None, Some, IsSome}
use Rattle.std.proofs.Common.{length-append, append_assoc}
use Rattle.std.proofs.lemmas.List.{append-nil, drop_all, map-append, take_all}
use Rattle.std.proofs.Math.Seq.{drop-append_seam, take-append_seam}
use Rattle.std.specs.{List.All, Global.Vec, Prelude.unwrap_or}
use Rattle.interpolator_syntax.specs.Places.{Placed, placed_from}
use Rattle.interpolator_syntax.specs.Nodes.{Node, as_forest, argument_content, target_value}
use Rattle.interpolator_syntax.specs.declared.piece_kind.PieceKind.TheVariants as kinds
use Rattle.interpolator_syntax.specs.declared.range.Range.{Range}
use Rattle.interpolator_pieces.specs.Stored.{branch_of, content_of, node_of, nodes_of, node_whole}
use Rattle.interpolator_pieces.specs.Stored.{detail_of, forest_whole}
use Rattle.interpolator_pieces.specs.StoredMeanings.{stored_name, stored_part}
use Rattle.interpolator_pieces.specs.declared.piece.Form.TheVariants as forms
use Rattle.interpolator_pieces.specs.declared.{piece.Piece.Piece, piece.Piece.TheViews.out-Piece}
use Rattle.interpolator_pieces.proofs.RunLemmas.{list_fits, list_held, text_held}
use Rattle.interpolator_pieces.proofs.{StoredLemmas.node_of_out, WholePieceLemmas.fits_text}
use Rattle.interpolator_prepared.specs.Items.{ItemPart, characters, in_item, in_join, join_parts}
use Rattle.interpolator_prepared.specs.Items.{parts_by, placed_eq}
use Rattle.interpolator_prepared.specs.SimpleLists.{IsItem, IsJoin, IsSimple, shown_item}
use Rattle.interpolator_prepared.specs.StoredSteps.{compiled_list, is_text, join_within}
use Rattle.interpolator_prepared.specs.StoredSteps.{joined_text, list_fits as fits_list, text_count}
use Rattle.interpolator_prepared.specs.StoredSteps.{texts_placed}
use Rattle.interpolator_prepared.specs.{Programs.whole_step, declared.lists.ListPieces.ListPieces}
use Rattle.interpolator_prepared.specs.declared.step.JoinedText.{JoinedText}
use Rattle.interpolator_prepared.specs.declared.step.ListStep.{ListStep}
use Rattle.interpolator_prepared.specs.declared.step.ValueSpec.{ValueSpec}
use Rattle.interpolator_prepared.proofs.CompileLemmas.{first_whole, named_part, text_form}
use Rattle.interpolator_prepared.proofs.CompileLemmas.{text_part, texts_fit}
use Rattle.interpolator_prepared.proofs.JoinedLemmas.{number_equals, on_test, with_value}

module _ (bs : List ℕ) where
  abbrev Whole : List Piece → Type 0
  Whole xs = forest_whole (as_forest (nodes_of bs xs)) ≡ true

  abbrev TextOf : Piece → Placed
  TextOf x = placed_from (detail_of x).from (unwrap_or (stored_part bs x) [])

  -- the node of a piece of text
  text_in : (x : Piece) → is_text x ≡ true → node_whole (node_of bs x) ≡ true
      → (in_item (node_of bs x) ≡ characters (TextOf x)) × (in_join (node_of bs x) ≡ characters (TextOf x))
  text_in x is whole =
      with_value (stored_part bs x) (text_part [] bs x is whole) (λ cs e.
      let held = text_held bs x cs (text_form [] bs (detail_of x).form is) (sym e) in
      (rw (node_of_out bs x, held, e) refl, rw (node_of_out bs x, held, e) refl))

  module _ (parts : Node → List ItemPart)
      (texts : (x : Piece) → is_text x ≡ true → node_whole (node_of bs x) ≡ true
      → parts (node_of bs x) ≡ characters (TextOf x)) where
    abbrev PartsOf : List Piece → List ItemPart
    PartsOf xs = parts_by parts (as_forest (nodes_of bs xs))

    -- the texts at the beginning of pieces are characters
    texts_first : (xs : List Piece) → Whole xs
        → PartsOf xs
        ≡ characters (texts_placed bs (take (text_count xs) xs)) ++ PartsOf (drop (text_count xs) xs)
    texts_first [] whole = refl
    texts_first (x ∷ xs) whole =
        let wholes = first_whole [] bs x xs whole in
        on_test (is_text x) (λ is.
        rw is (ap (λ ps. ps ++ PartsOf xs) (texts x is wholes.0)
        ∙ ap (λ ps. characters (TextOf x) ++ ps) (texts_first xs wholes.1)
        ∙ sym (append_assoc (characters (TextOf x))
        (characters (texts_placed bs (take (text_count xs) xs))) (PartsOf (drop (text_count xs) xs)))
        ∙ ap (λ ps. ps ++ PartsOf (drop (text_count xs) xs))
        (sym (map-append _ (TextOf x) (texts_placed bs (take (text_count xs) xs))))))
        (λ is. rw is refl)

    -- if all are texts
    texts_all : (xs : List Piece) → Whole xs → length xs ≤ text_count xs
        → PartsOf xs ≡ characters (texts_placed bs xs)
    texts_all xs whole all =
        texts_first xs whole
        ∙ ap (λ ys. characters (texts_placed bs ys) ++ PartsOf (drop (text_count xs) xs))
        (take_all (text_count xs) xs all)
        ∙ ap (λ ys. characters (texts_placed bs xs) ++ PartsOf ys) (drop_all (text_count xs) xs all)
        ∙ append-nil (characters (texts_placed bs xs))

  abbrev Fit : List Piece → Type 0
  Fit xs = All (λ piece. IsSome (stored_part bs piece)) xs

  pub all_fit : (xs : List Piece) → Whole xs → length xs ≤ text_count xs → Fit xs
  all_fit xs whole all = rw (take_all (text_count xs) xs all) at (texts_fit [] bs xs whole)

  -- texts, the item, and texts
  pub around_item : (xs after : List Piece) (one : Piece) (asked : ValueSpec) → Whole xs
      → drop (text_count xs) xs ≡ one ∷ after → IsItem (node_of bs one) asked
      → length after ≤ text_count after → Whole after
      → (parts_by in_item (as_forest (nodes_of bs xs))
      ≡ characters (texts_placed bs (take (text_count xs) xs))
      ++ (shown_item asked ∷ characters (texts_placed bs after)))
  around_item xs after one asked whole rest item all wholes =
      let texts : (x : Piece) → is_text x ≡ true → node_whole (node_of bs x) ≡ true
      → in_item (node_of bs x) ≡ characters (TextOf x) = λ x is h. (text_in x is h).0 in
      texts_first in_item texts xs whole
      ∙ ap (λ ys. characters (texts_placed bs (take (text_count xs) xs))
      ++ parts_by in_item (as_forest (nodes_of bs ys))) rest
      ∙ ap (λ ps. characters (texts_placed bs (take (text_count xs) xs))
      ++ (ps ++ parts_by in_item (as_forest (nodes_of bs after)))) item
      ∙ ap (λ ps. characters (texts_placed bs (take (text_count xs) xs)) ++ (shown_item asked ∷ ps))
      (texts_all in_item texts after wholes all)

  -- the pieces of a join
  pub join_texts : (group : Option (Vec Piece)) (v : Vec Piece) (xs : List Piece) → group ≡ Some v
      → xs ≡ v.items → Whole xs → length xs ≤ text_count xs → IsJoin bs (join_parts (branch_of bs group)) xs
  join_texts group v xs is same whole all = record {
    fit = all_fit xs whole all;
    is = rw (is, ← same) (texts_all in_join (λ x is h. (text_in x is h).1) xs whole all);
  }

  pub no_join : (group : Option (Vec Piece)) → group ≡ None
      → IsJoin bs (join_parts (branch_of bs group)) []
  no_join group is = record { fit = λ k d l. absurd (omega (arith, l)); is = rw is refl }

  -- a piece that is the value under the empty name
  pub nameless_item : (x : Piece) (start : ℕ) (name : List ℕ) (asked : ValueSpec) → name ≡ []
      → (out-Piece x).kind ≡ kinds.Closed
      → content_of bs x ≡ Some (argument_content start name asked.spec (target_value asked.slot) asked.end)
      → IsItem (node_of bs x) asked
  nameless_item x start name asked empty kind held =
      rw (node_of_out bs x, held, empty, kind) refl

-- ---- the step of a list

placed_same : (xs : Placed) → placed_eq xs xs ≡ true
placed_same [] = refl
placed_same (x ∷ xs) =
    rw (number_equals x.0 x.0 refl, number_equals x.1 x.1 refl, placed_same xs) refl

-- the join lies within the text between two items
within_is : (after join before : Placed) → join_within after ((after ++ join) ++ before) before ≡ join
within_is after join before =
    let long : length ((after ++ join) ++ before) ≡ length after + length join + length before =
    rw (length-append (after ++ join) before, length-append after join) refl in
    let count : length ((after ++ join) ++ before) - (length after + length before) ≡ length join =
    omega (arith, long) in
    ap (λ xs. take (length ((after ++ join) ++ before) - (length after + length before))
    (drop (length after) xs)) (append_assoc after join before)
    ∙ ap (take (length ((after ++ join) ++ before) - (length after + length before)))
    (drop-append_seam after (join ++ before))
    ∙ ap (λ n. take n (join ++ before)) count
    ∙ take-append_seam join before

module _ (bs : List ℕ) (x : Piece) (range : Option Range) (pieces : ListPieces)
    (whole : node_whole (node_of bs x) ≡ true) (listed : (detail_of x).form ≡ forms.List range)
    (simple : IsSimple bs x pieces) (before between after : JoinedText)
    (first : joined_text before ≡ texts_placed bs pieces.item.before.now)
    (last : joined_text after ≡ texts_placed bs pieces.item.after.now)
    (around : joined_text between
    ≡ (texts_placed bs pieces.item.after.now ++ texts_placed bs pieces.join.now)
    ++ texts_placed bs pieces.item.before.now) (start : ℕ) (begins : start ≡ (out-Piece x).place + 1)
  where
    abbrev Made : ListStep
    Made = record {
      start = start;
      name = record { from = (detail_of x).from; to = (detail_of x).to };
      range = range;
      spec = (detail_of x).spec;
      end = (detail_of x).spec_end;
      value = pieces.item.value;
      before = before;
      between = between;
      after = after;
    }

    join_is : join_within (joined_text after) (joined_text between) (joined_text before)
        ≡ texts_placed bs pieces.join.now
    join_is = rw (first, last, around)
        (within_is (texts_placed bs pieces.item.after.now) (texts_placed bs pieces.join.now)
        (texts_placed bs pieces.item.before.now))

    made_fits : fits_list Made ≡ true
    made_fits =
        let same : joined_text between
        ≡ (joined_text after
        ++ join_within (joined_text after) (joined_text between) (joined_text before))
        ++ joined_text before =
        around ∙ rw (join_is, first, last) refl in
        rw (simple.no_width) (ap (placed_eq (joined_text between)) (sym same)
        ∙ placed_same (joined_text between))

    pub list_made : compiled_list bs Made ≡ Some (whole_step (node_of bs x))
    list_made =
        with_value (stored_name bs x) (list_fits bs x range listed (fits_text bs x whole).held)
        (λ name is.
        let held = list_held bs x start name begins (sym is) range listed in
        rw (
          made_fits,
          named_part (nat_lt (out-Piece x).place (detail_of x).from) (stored_part bs x) name is,
          node_of_out bs x,
          held,
          simple.items.is,
          simple.join.is,
          simple.closed,
          join_is,
          first,
          last,
        ) refl)
