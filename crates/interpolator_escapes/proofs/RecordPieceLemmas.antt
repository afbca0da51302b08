-- Where a record is after a stored piece.
use Rattle.std.proofs.Common.{◌≡◌, ℕ, true, refl, ap, ◌∙◌, Result, Ok, Err, List, Some, IsSome}
use Rattle.interpolator_render.specs.{declared.view.Spec.Spec, declared.view.Trait.Trait}
use Rattle.interpolator_render.specs.declared.view.Trait.TheVariants.{Display}
use Rattle.interpolator_syntax.specs.{Nodes.Branch, SpecTexts.plain_spec}
use Rattle.interpolator_syntax.specs.declared.argument_fault.ArgumentFault.{ArgumentFault}
use Rattle.interpolator_pieces.specs.Stored.{branch_of, content_of, detail_of, node_of}
use Rattle.interpolator_pieces.specs.{StoredLists.is_list_form, StoredMeanings.stored_part}
use Rattle.interpolator_pieces.specs.declared.piece.Form.TheVariants as forms
use Rattle.interpolator_pieces.specs.declared.{piece.Piece.Piece, piece.Piece.TheViews.out-Piece}
use Rattle.interpolator_pieces.proofs.StoredLemmas.{node_of_out}
use Rattle.interpolator_escapes.specs.CodeRecords.{AnswersAs, spot_of}
use Rattle.interpolator_escapes.specs.RecordFormats.{Spot, after_item, after_join, after_literal}
use Rattle.interpolator_escapes.specs.RecordFormats.{after_node, after_value, and_then, item_end}
use Rattle.interpolator_escapes.specs.RecordFormats.{IsRecordAnswer, join_end, list_end}
use Rattle.interpolator_escapes.specs.RecordFormats.{record_answer}
use Rattle.interpolator_escapes.specs.declared.{ending.Ending.Ending, misplaced.Misplaced.Misplaced}
use Rattle.interpolator_escapes.specs.declared.misplaced.PlaceError.{PlaceError}
use Rattle.interpolator_escapes.specs.declared.misplaced.PlaceError.TheVariants as errors
use Rattle.interpolator_escapes.specs.declared.records.Spot as code
use Rattle.interpolator_escapes.proofs.PlacingLemmas.{named, range_of}

module _ (bs : List ℕ) (x : Piece) (s : Spot) (r : Result code.Spot Misplaced) where
  abbrev Answers : Type 0
  Answers = AnswersAs r (after_node s (node_of bs x))

  abbrev place_of : ℕ
  place_of = (out-Piece x).place

  pub text_answer : (cs : List ℕ) → (detail_of x).form ≡ forms.Text → Some cs ≡ stored_part bs x
      → AnswersAs r (after_literal s cs) → Answers
  text_answer cs form part h = rw (node_of_out bs x, form, ← part) h

  pub broken_answer : (fault : ArgumentFault) → (detail_of x).form ≡ forms.Broken fault
      → AnswersAs r (Ok s) → Answers
  broken_answer fault form h = rw (node_of_out bs x, form) h

  module _ (held : IsSome (content_of bs x)) where
    pub value_answer : (w : Trait) (spec : Spec) → (detail_of x).form ≡ forms.Value w
        → spec ≡ (detail_of x).spec → AnswersAs r (after_value place_of s w spec) → Answers
    value_answer w spec form same h =
        let n = named _ _ (rw form at held) in rw (node_of_out bs x, form, n.1) (rw same at h)

    pub plain_answer : (detail_of x).form ≡ forms.Plain
        → AnswersAs r (after_value place_of s Display plain_spec) → Answers
    plain_answer form h =
        let n = named _ _ (rw form at held) in rw (node_of_out bs x, form, n.1) h

    module _ (listed : is_list_form (detail_of x).form ≡ true) where
      abbrev item : Branch
      item = branch_of bs (out-Piece x).item

      abbrev join : Branch
      join = branch_of bs (out-Piece x).join

      abbrev Items : Result Spot Misplaced
      Items = and_then (after_item place_of s item) (item_end place_of s)

      abbrev Joins : Spot → Result Spot Misplaced
      Joins t = and_then (after_join t join) (join_end place_of s t)

      list_is : after_node s (node_of bs x)
          ≡ and_then Items (λ t. and_then (Joins t) (list_end place_of (detail_of x).spec.width))
      list_is =
          let r = range_of (detail_of x).form listed in
          let n = named _ _ (rw r.1 at held) in
          rw (node_of_out bs x, r.1, n.1) refl

      pub items_stop : (e : Misplaced) → AnswersAs (Err e) Items
          → AnswersAs (Err e) (after_node s (node_of bs x))
      items_stop e h = rw (list_is, ← h) refl

      pub joins_stop : (t : code.Spot) (e : Misplaced) → AnswersAs (Ok t) Items
          → AnswersAs (Err e) (Joins (spot_of t)) → AnswersAs (Err e) (after_node s (node_of bs x))
      joins_stop t e i h = rw (list_is, ← i, ← h) refl

      pub list_answer : (t u : code.Spot) (spec : Spec) → spec ≡ (detail_of x).spec
          → AnswersAs (Ok t) Items → AnswersAs (Ok u) (Joins (spot_of t))
          → AnswersAs r (list_end place_of spec.width (spot_of u)) → Answers
      list_answer t u spec same i j k =
          k ∙ ap (λ (spec : Spec). list_end place_of spec.width (spot_of u)) same
          ∙ rw (list_is, ← i, ← j) refl

pub is_answer : (answer : Result Ending PlaceError) (what : Result Spot Misplaced)
    → answer ≡ record_answer what → IsRecordAnswer answer what
is_answer (Ok ending) what e = e
is_answer (Err (errors.Misplaced m)) what e = e
is_answer (Err errors.NoMemory) what e = tt
