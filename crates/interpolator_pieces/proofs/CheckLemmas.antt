-- The first fault of stored pieces, from those of their parts.
use Rattle.std.proofs.Common.{suc, arith, ◌≡◌, refl, ℕ, true, List, [], ◌∷◌, Option, Some, None}
use Rattle.std.proofs.Common.{option_map, Result, Ok, inl, inr, flat_map}
use Rattle.interpolator_syntax.specs.Faults.{Fault, Answer, fault, result_answer}
use Rattle.interpolator_syntax.specs.Nodes.{Content, argument_content, target_list}
use Rattle.interpolator_syntax.specs.{Places.At, declared.error.Error.Error}
use Rattle.interpolator_pieces.specs.NodeChecks.{fault_list, first_fault, form_fault}
use Rattle.interpolator_pieces.specs.NodeChecks.{stored_own_fault, stored_end_fault, visit_faults}
use Rattle.interpolator_pieces.specs.NodeChecks.{text_faults, own_fault}
use Rattle.interpolator_pieces.specs.Visits.{Visit, enter, leave, Walks, text_visits}
use Rattle.interpolator_pieces.specs.Stored.{node_of, node_whole, stored_content, name_part}
use Rattle.interpolator_pieces.specs.{declared.walk.Level.Level, declared.piece.Form.Form}
use Rattle.interpolator_pieces.proofs.VisitLemmas.{text_tells}
use Rattle.interpolator_pieces.specs.declared.piece.Form.TheVariants as forms
use Rattle.interpolator_render.specs.declared.view.Spec.{Spec}
use Rattle.interpolator_pieces.specs.declared.piece.Piece.{Piece}
use Rattle.interpolator_pieces.proofs.{StoredLemmas.node_of_out, WholePieceLemmas.fits_text}

-- ---- the first of some faults

abbrev pub reported : List Fault → Option Answer
reported xs = option_map fault (first_fault xs)

-- ---- the faults of one stored piece, when it is entered and when it is left

-- the fault of what is held is told by its form
own_by : (bs : List ℕ) (place from to end : ℕ) (spec : Spec) (form : Form) (held : Content)
    → stored_content bs place from to end spec form ≡ Some held
    → own_fault held ≡ form_fault spec end form
own_by bs place from to end spec (forms.List range) held is =
    by_name (name_part bs place from to) is
  where
    by_name : (o : Option (List ℕ))
        → option_map (λ name. argument_content (suc place) name spec (target_list range) end) o
        ≡ Some held
        → own_fault held ≡ form_fault spec end (forms.List range)
    by_name None e = absurd (cc)
    by_name (Some name) e =
        let same : argument_content (suc place) name spec (target_list range) end ≡ held = cc in
        rw (← same) refl
own_by bs place from to end spec form held is = grind arith

module _ (bs : List ℕ) (x : Piece) (whole : node_whole (node_of bs x) ≡ true) (level : Level) where
  pub entered_faults : visit_faults (enter level (node_of bs x)) ≡ fault_list (stored_own_fault x)
  entered_faults = grind (arith, node_of_out bs x, (fits_text bs x whole).held, own_by)

  pub left_faults : visit_faults (leave level (node_of bs x)) ≡ fault_list (stored_end_fault x)
  left_faults = grind (arith, node_of_out, fits_text)

  pub own_reported : option_map fault (stored_own_fault x)
      ≡ reported (visit_faults (enter level (node_of bs x)))
  own_reported = grind (arith, entered_faults)

  pub end_reported : option_map fault (stored_end_fault x)
      ≡ reported (visit_faults (leave level (node_of bs x)))
  end_reported = grind (arith, left_faults)

-- ---- the first fault of a text

module _ {V : Type 0} (step : V → Visit → V → Result (Unit {0}) Error → Type 0)
    (tells : (old new : V) (x : Visit) (answer : Result (Unit {0}) Error) → step old x new answer
    → result_answer answer ≡ reported (visit_faults x)) where
  visits_reported : (old new : V) (xs : List Visit) (answer : Result (Unit {0}) Error)
      → Walks step old xs new answer → result_answer answer ≡ reported (flat_map visit_faults xs)
  visits_reported old new [] answer h = grind arith
  visits_reported old new (x ∷ xs) answer (inl h) = grind (arith, tells old new x answer h.0)
  visits_reported old new (x ∷ xs) answer (inr (mid, (s, h))) =
      grind (arith, tells old mid x (Ok tt) s, visits_reported mid new xs answer h)

  pub text_reported : (a : At) (old new : V) (answer : Result (Unit {0}) Error)
      → Walks step old (text_visits a) new answer → result_answer answer ≡ reported (text_faults a)
  text_reported a old new answer h =
      rw (← text_tells a) (visits_reported old new (text_visits a) answer h)
