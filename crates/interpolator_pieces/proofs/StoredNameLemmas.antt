-- The names that stored pieces use: that of one piece, and those of a text.
use Rattle.std.proofs.Common.{arith, ◌≡◌, ℕ, Bool, true, List, ◌++◌, Some, IsSome, Result, Ok}
use Rattle.std.specs.declared.string.String.{String}
use Rattle.interpolator_syntax.specs.{declared.argument_fault.ArgumentFault.ArgumentFault}
use Rattle.interpolator_syntax.specs.{Places.At}
use Rattle.interpolator_eval.specs.Meaning.AskedNames.{context_names, content_names, asked_names}
use Rattle.interpolator_pieces.specs.Stored.{detail_of, content_of, node_of, node_whole}
use Rattle.interpolator_pieces.specs.{NodeNames.visit_asks, NodeNames.name_texts, Visits.Visit}
use Rattle.interpolator_pieces.specs.{Visits.Walks, Visits.text_visits, StoredMeanings.stored_part}
use Rattle.interpolator_pieces.proofs.VisitLemmas.{gathers, text_asks}
use Rattle.interpolator_pieces.specs.declared.piece.Form.TheVariants as forms
use Rattle.interpolator_pieces.specs.declared.piece.Piece.{Piece}
use Rattle.interpolator_pieces.proofs.WholePieceLemmas.{fits_text}

-- ---- the name of a stored argument

module _ (bs : List ℕ) (x : Piece) (no_text : ¬ ((detail_of x).form ≡ forms.Text))
    (no_fault : (fault : ArgumentFault) → ¬ ((detail_of x).form ≡ forms.Broken fault))
    (whole : node_whole (node_of bs x) ≡ true) where
  -- the name of an argument is cut from its text
  pub asked_part : IsSome (stored_part bs x)
  asked_part = grind (arith, (fits_text bs x whole).held, no_fault)

  -- and it is the name that the piece uses
  pub asked_held : (in_item : Bool) (name : List ℕ) → Some name ≡ stored_part bs x
      → context_names in_item name ≡ content_names in_item (content_of bs x)
  asked_held in_item name e = grind (arith, (fits_text bs x whole).held, no_fault)

-- ---- the names of a text

pub text_names : {V E Z : Type 0} (step : V → Visit → V → Result (Unit {0}) E → Type 0)
    (names : V → List (String Z))
    → ((old new : V) (x : Visit) → step old x new (Ok tt)
    → name_texts (names new) ≡ name_texts (names old) ++ visit_asks x)
    → (a : At) (old new : V) → Walks step old (text_visits a) new (Ok tt)
    → name_texts (names new) ≡ name_texts (names old) ++ asked_names a
text_names step names adds a old new h =
    rw (← text_asks a) (gathers step (λ v. name_texts (names v)) visit_asks adds old new _ h)
