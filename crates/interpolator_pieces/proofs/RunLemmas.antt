-- What writing stored pieces needs to know of them: where their text is cut from, what they hold,
-- and the outcome of an argument from that of its value.
use Rattle.std.proofs.Common.{◌≡◌, refl, arith, ℕ, ◌+◌, ◌-◌, ◌<◌, ◌≤◌, true, nat_lt, List, [], ◌∷◌}
use Rattle.std.proofs.Common.{length, take, drop, get_or, Option, None, Some, IsSome, option_map}
use Rattle.std.proofs.Common.{chars, IsUtf8, IsCharBoundary}
use Rattle.std.proofs.{lemmas.Bool.Decides.nat_tests, lemmas.List.drop-map}
use Rattle.std.specs.Bool.{MatchBool, ◌==◌}
use Rattle.interpolator_render.specs.declared.view.Trait.{Trait}
use Rattle.interpolator_render.specs.declared.view.Trait.TheVariants as traits
use Rattle.interpolator_render.specs.{declared.view.Spec.Spec, Views.Shown, Writers.Written}
use Rattle.interpolator_syntax.specs.Faults.{Answer, fault, argument_fault_of}
use Rattle.interpolator_syntax.specs.Nodes.{Content, text_content, argument_content, fault_content}
use Rattle.interpolator_syntax.specs.Nodes.{no_nodes, Target, target_value, target_list, as_forest}
use Rattle.interpolator_syntax.specs.Nodes.{nodes}
use Rattle.interpolator_syntax.specs.{Places.At, Places.outermost, SpecTexts.plain_spec}
use Rattle.interpolator_syntax.specs.declared.argument_fault.ArgumentFault.{ArgumentFault}
use Rattle.interpolator_syntax.specs.declared.range.Range.{Range}
use Rattle.interpolator_eval.specs.Meaning.Meanings.{Meaning, and_closed, forest_means}
use Rattle.interpolator_eval.specs.Meaning.Sources.{FirstAsks, asks_list, first_holds}
use Rattle.interpolator_eval.specs.{Meaning.Environments.Environment, Meaning.Outcomes.Outcome}
use Rattle.interpolator_pieces.specs.Stored.{name_part, part, detail_of, content_of, node_of}
use Rattle.interpolator_pieces.specs.Stored.{nodes_of, StandFor, forest_whole, node_whole}
use Rattle.interpolator_pieces.specs.StoredLists.{begins_list, is_list_form, stored_list}
use Rattle.interpolator_pieces.specs.StoredLists.{stored_rest}
use Rattle.interpolator_pieces.specs.StoredMeanings.{stored_part, stored_name, unclosed_fault_of}
use Rattle.interpolator_pieces.specs.StoredMeanings.{stored_pieces_mean}
use Rattle.interpolator_pieces.specs.declared.piece.Form.TheVariants as forms
use Rattle.interpolator_pieces.specs.declared.{piece.Piece.Piece, piece.Piece.TheViews.out-Piece}
use Rattle.interpolator_syntax.specs.declared.piece_kind.PieceKind.{PieceKind}
use Rattle.interpolator_eval.proofs.MeaningLemmas.SinkLemmas.{and_then, fault_first, ended}
use Rattle.interpolator_pieces.proofs.WholePieceLemmas.{both, fits_text, pieces_whole}
use Rattle.interpolator_pieces.proofs.{StoredLemmas.node_of_out, WholeLemmas.nodes_whole}
use Rattle.interpolator_pieces.proofs.WithinLemmas.{within_same}

-- ---- where a text may be cut

-- the text may be cut at both ends of a part, and these are in order
pub record Cut (bs : List ℕ) (from to : ℕ) : Type 0 where
  pub order : from ≤ to
  pub first : IsCharBoundary bs from
  pub last : IsCharBoundary bs to
  pub cut : part bs from to ≡ Some (chars (take (to - from) (drop from bs)))

pub cut_of : (bs : List ℕ) (from to : ℕ) → IsSome (part bs from to) → Cut bs from to
unfolding part
cut_of bs from to h = grind (arith, nat_lt)

-- they lie in the text
pub part_within : (bs : List ℕ) (from to : ℕ) → IsSome (part bs from to)
    → (from ≤ length bs) × (to ≤ length bs)
unfolding part
part_within bs from to h = grind (arith, nat_lt)

-- and a name begins after the place of its piece
pub name_within : (bs : List ℕ) (place from to : ℕ) → IsSome (name_part bs place from to)
    → (place < from) × (from ≤ length bs)
name_within bs place from to h = grind (arith, nat_lt, part_within)

-- ---- what a stored piece holds that fits its text

module _ (bs : List ℕ) (x : Piece) where
  -- a text that is written
  pub text_fits : (detail_of x).form ≡ forms.Text → IsSome (content_of bs x)
      → IsSome (stored_part bs x)
  text_fits form h = grind arith

  -- a name, of each kind of argument
  pub name_fits : (detail_of x).form ≡ forms.Plain → IsSome (content_of bs x)
      → IsSome (stored_name bs x)
  name_fits form h = grind arith

  pub value_fits : (t : Trait) → (detail_of x).form ≡ forms.Value t → IsSome (content_of bs x)
      → IsSome (stored_name bs x)
  value_fits t form h = grind arith

  pub list_fits : (range : Option Range) → (detail_of x).form ≡ forms.List range
      → IsSome (content_of bs x) → IsSome (stored_name bs x)
  list_fits range form h = grind arith

  pub text_held : (cs : List ℕ) → (detail_of x).form ≡ forms.Text → Some cs ≡ stored_part bs x
      → content_of bs x ≡ Some (text_content (detail_of x).from cs)
  text_held cs form h = grind arith

  pub broken_held : (f : ArgumentFault) → (detail_of x).form ≡ forms.Broken f
      → content_of bs x ≡ Some (fault_content (argument_fault_of f))
  broken_held f form = grind arith

  module _ (start : ℕ) (name : List ℕ) (first : start ≡ (out-Piece x).place + 1)
      (is : Some name ≡ stored_name bs x) where
    abbrev Valued : Spec → Target → Option Content
    Valued spec target = Some (argument_content start name spec target (detail_of x).spec_end)

    pub name_held : (detail_of x).form ≡ forms.Plain
        → content_of bs x ≡ Valued plain_spec (target_value traits.Display)
    name_held form = grind arith

    pub value_held : (t : Trait) → (detail_of x).form ≡ forms.Value t
        → content_of bs x ≡ Valued (detail_of x).spec (target_value t)
    value_held t form = grind arith

    pub list_held : (range : Option Range) → (detail_of x).form ≡ forms.List range
        → content_of bs x ≡ Valued (detail_of x).spec (target_list (range))
    list_held range form = grind arith

-- ---- what asks for a list

module _ (bs : List ℕ) (x : Piece) where
  -- a piece that fits its text asks for a list exactly if its form is a list
  pub asks_form : IsSome (content_of bs x)
      → asks_list (node_of bs x) ≡ is_list_form (detail_of x).form
  asks_form some = grind (arith, node_of_out)

  -- the list that it asks for, and what follows it
  pub first_list : (xs : List Piece) → is_list_form (detail_of x).form ≡ true → IsSome (content_of bs x)
      → FirstAsks (stored_list bs (x ∷ xs)) (stored_rest bs (x ∷ xs))
      (as_forest (nodes_of bs (x ∷ xs)))
  first_list xs listed some = grind (arith, list_fits, node_of_out)

-- the first of pieces that fit their text holds something
pub pieces_hold : (bs : List ℕ) (xs : List Piece) → forest_whole (as_forest (nodes_of bs xs)) ≡ true
    → MatchBool (length xs == 0) (as_forest (nodes_of bs xs) ≡ no_nodes)
    (first_holds (as_forest (nodes_of bs xs)) ≡ true)
pieces_hold bs [] whole = refl
pieces_hold bs (x ∷ xs) whole = grind (arith, nat_tests, both, node_of_out, fits_text)

-- the first piece, if pieces begin with a list
pub record FirstPiece (bs : List ℕ) (x : Piece) : Type 0 where
  pub whole : node_whole (node_of bs x) ≡ true
  pub name : IsSome (stored_name bs x)

pub first_piece :
    (bs : List ℕ) (xs : List Piece) (x : Piece) → begins_list xs ≡ true → x ≡ get_or xs 0 x
    → forest_whole (as_forest (nodes_of bs xs)) ≡ true → FirstPiece bs x
first_piece bs xs x listed is whole = grind (arith, both, list_fits, fits_text)

-- ---- the outcome of an argument

module _ (m : Meaning) (s t : Written) (end : ℕ) (kind : PieceKind) where
  -- after a fault it does not matter whether the argument is closed
  pub closed_fault : (q : Answer) → Outcome m s t (Some q)
      → Outcome (and_closed kind end m) s t (Some q)
  closed_fault q o = grind (arith, fault_first)

  -- if all was written, a closed argument adds nothing, and an unclosed one its fault
  pub closed_done : (r : Option Answer) → r ≡ option_map fault (unclosed_fault_of kind end)
      → Outcome m s t None → Outcome (and_closed kind end m) s t r
  closed_done r reported o = grind (arith, and_then, ended)

-- ---- the pieces of a whole text

module _ (bs : List ℕ) (xs : List Piece) (a : At) (same : nodes_of bs xs ≡ nodes a) where
  -- they fit it
  pub text_whole : forest_whole (as_forest (nodes_of bs xs)) ≡ true
  text_whole = rw same (nodes_whole a)

  module _ (skipped : ℕ) where
    -- those after the first ones fit it
    pub rest_whole : forest_whole (as_forest (nodes_of bs (drop skipped xs))) ≡ true
    rest_whole = pieces_whole bs xs skipped text_whole

    -- and what is written for them is what their nodes mean
    pub rest_outcome :
        {X : Type 0} (shows : X → Trait → Spec → Shown) (e f : Environment X) (old new : Written)
        (answer : Option Answer) → f ≡ e
        → Outcome (stored_pieces_mean shows f bs (drop skipped xs)) old new answer
        → Outcome (forest_means shows e (as_forest (drop skipped (nodes a)))) old new answer
    rest_outcome shows e f old new answer is o = grind (arith, drop-map)

-- the pieces that stand for a whole format are its own
pub format_stands :
    (bs : List ℕ) (xs : List Piece) → IsUtf8 bs → StandFor xs (outermost (chars bs))
    → nodes_of bs xs ≡ nodes (outermost (chars bs))
format_stands bs xs utf8 stand = grind (arith, within_same)
