-- What is told of a format that was checked.
use Rattle.std.specs.Str.{is_utf8}
use Rattle.std.specs.{Borrow.Bor, Option.option_copied, Prelude.slice_get, Slice.IsItemAt}
use Rattle.std.proofs.Common.{◌≡◌, inl, inr, ◌∙◌, sym, ap, refl, List, [], ◌∷◌, ℕ, None, Some}
use Rattle.std.proofs.Common.{Option, true, option_map, Err, arith}
use Rattle.std.proofs.lemmas.Option.{slice_get-map, slice_get_past, slice_get_read}
use Rattle.interpolator_syntax.specs.Faults.{Fault, fault, answer_of}
use Rattle.interpolator_syntax.specs.declared.error.Error.{Error}
use Rattle.interpolator.specs.Template.NodeChecks.{first_fault}
use Rattle.interpolator_border.specs.Answers.{ReportedBy, ReportedFailure}
use Rattle.interpolator_border.specs.Checks.{AloneAnswers, AreFaults, CheckAnswers, CheckedAlone}
use Rattle.interpolator_border.specs.Checks.{Faults, FoundAt, IsFaultAt, alone_fault}
use Rattle.interpolator_border.specs.declared.field.Field.{Field}
use Rattle.interpolator_border.specs.declared.answer.{Answer.Answer as Reported_answer}
use Rattle.interpolator_border.specs.declared.answer.{Failure.Failure}
use Rattle.interpolator_border.proofs.AnswerLemmas.{if_fault, out_of_memory}
use Rattle.interpolator_border.specs.declared.answer.Failure.TheVariants as failure

module _ {fields items : List Field} {format : List ℕ} where
  -- what holds of the faults
  pub faults_more : {P Q : List Fault → Type 0} → ((fs : List Fault) → P fs → Q fs)
      → Faults fields items format P → Faults fields items format Q
  faults_more more w = grind arith

-- ---- what is told

fault_same : (x : Option Error) (y : Option Fault) → option_map answer_of x ≡ option_map fault y
    → (which : ℕ) (fs : List Fault) → slice_get fs which ≡ y → IsFaultAt fs which x
fault_same x y same which fs is = grind arith

-- what a slice has at an index, as a copy
got : {X : Type 0} (xs : List X) (k : ℕ) (found : Option (Bor X)) → IsItemAt xs k found
    → option_copied found ≡ slice_get xs k
got xs k found at = grind (arith, slice_get_past, slice_get_read)

-- what is at a number among errors that are faults
pub fault_there : (errors : List Error) (which : ℕ) (found : Option (Bor Error))
    → IsItemAt errors which found → FoundAt errors which (option_copied found)
fault_there errors which found at fs are =
    fault_same (option_copied found) (slice_get fs which)
    (ap (option_map answer_of) (got errors which found at) ∙ sym (slice_get-map answer_of errors which)
    ∙ ap (λ xs. slice_get xs which) are ∙ slice_get-map fault fs which) which fs refl

pub at_first : (fs : List Fault) → slice_get fs 0 ≡ first_fault fs
at_first fs = grind arith

-- no first fault, so none
pub none_first : (fs : List Fault) → slice_get fs 0 ≡ None → fs ≡ []
none_first [] none = refl
none_first (f ∷ fs) none = cc

-- the first fault is told
pub first_reported : (fields items : List Field) (format : List ℕ) (errors : List Error)
    → is_utf8 format ≡ true → Faults fields items format (AreFaults errors)
    → (answer : Reported_answer) (old new : List ℕ) (e : Error) → FoundAt errors 0 (Some e)
    → ReportedBy (answer_of e) 0 old new answer → CheckAnswers fields items format old new answer
first_reported fields items format errors utf8 finds answer old new e at reported =
    inl (
      utf8,
      faults_more (λ fs are.
          if_fault (λ a. ReportedBy a 0 old new answer) _ (first_fault fs) (answer_of e)
          (at fs are ∙ ap (option_map fault) (at_first fs)) reported) finds,
    )

-- the first fault of a format by itself is told, or why it is not known
pub alone_fails : (format old new : List ℕ) (answer : Reported_answer) (why : Failure)
    → CheckedAlone format (Err why) → ReportedFailure why old new answer
    → AloneAnswers format old new answer
alone_fails format old new answer failure.NotUtf8 checked reported = inr (inr (reported, checked))
alone_fails format old new answer failure.Lists checked reported = absurd checked
alone_fails format old new answer failure.Table checked reported = absurd checked
alone_fails format old new answer (failure.Fault e) (inl wants) reported =
    inr (inl (out_of_memory 0 old new answer (answer_of e) wants reported))
alone_fails format old new answer (failure.Fault e) (inr checked) reported =
    inl (
      checked.0,
      if_fault (λ a. ReportedBy a 0 old new answer) _ (alone_fault format) (answer_of e) checked.1
          reported,
    )
