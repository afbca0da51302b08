-- What a call owes that writes what a format text means, or makes its text.
use Rattle.std.specs.Prelude.{ℕ, List, length, Option, Result}
use Rattle.std.specs.{Str.chars, declared.string.String.String}
use Rattle.interpolator_render.specs.{Views.Shown, Writers.Written, declared.view.Spec.Spec}
use Rattle.interpolator_render.specs.declared.view.Trait.{Trait}
use Rattle.interpolator_syntax.specs.Faults.{Answer, PlaceWithin, result_answer}
use Rattle.interpolator_syntax.specs.{Places.outermost, declared.error.Error.Error}
use Rattle.interpolator_eval.specs.Meaning.Environments.{Environment, environment, cut}
use Rattle.interpolator_eval.specs.Meaning.Meanings.{Meaning, means}
use Rattle.interpolator_eval.specs.Meaning.Outcomes.{Outcome, Formats}
use Rattle.interpolator_eval.specs.{Slots.Slots, Meaning.AskedNames.asked_names}
use Rattle.interpolator_pieces.specs.Lines.{line_means}

-- what is meant in an environment, the environment of a call, the names that its text asks for, and
-- the length of the text
module _ {X : Type 0}
    (meant : Environment X → Meaning) (e : Environment X) (names : List (List ℕ)) (size : ℕ) where
  -- what is meant is written, also if only `names` are found; the place of a fault lies in the text
  pub record Wrote (old new : Written) (answer : Option Answer) : Type 0 where
    pub outcome : Outcome (meant e) old new answer
    pub asked : Outcome (meant (cut e names)) old new answer
    pub place : PlaceWithin size answer

  -- so of a text that is made
  pub record Made {Z : Type 0} (result : Result (String Z) Error) : Type 0 where
    pub formats : Formats (meant e) result
    pub asked : Formats (meant (cut e names)) result
    pub place : PlaceWithin size (result_answer result)

-- what values show, what a context finds, and the bytes of a format
module _ {X : Type 0}
    (shows : X → Trait → Spec → Shown) (finds : List ℕ → Option (Slots X)) (bs : List ℕ) where
  -- the format is written
  abbrev pub WritesText : (old new : Written) → Option Answer → Type 0
  WritesText = let a = outermost (chars bs) in
      Wrote (λ e. means shows e a) (environment finds) (asked_names a) (length bs)

  -- and a newline after it, if there is no fault
  abbrev pub WritesLine : (old new : Written) → Option Answer → Type 0
  WritesLine = let a = outermost (chars bs) in
      Wrote (λ e. line_means (means shows e a)) (environment finds) (asked_names a) (length bs)

  -- its text is made in a `String`
  abbrev pub MakesText : {Z : Type 0} → Result (String Z) Error → Type 0
  MakesText = let a = outermost (chars bs) in
      Made (λ e. means shows e a) (environment finds) (asked_names a) (length bs)
