-- What a call owes that writes a format follows from its outcome.
use Rattle.std.proofs.Common.{arith, ℕ, List, length, Option, None, Some, chars, IsUtf8}
use Rattle.interpolator_render.specs.{Views.Shown, Writers.Written, declared.view.Spec.Spec}
use Rattle.interpolator_render.specs.declared.view.Trait.{Trait}
use Rattle.interpolator_syntax.specs.{Places.outermost, Faults.Answer}
use Rattle.interpolator_syntax.proofs.CharacterLemmas.{size-chars}
use Rattle.interpolator_eval.specs.{Slots.Slots, Meaning.Environments.environment}
use Rattle.interpolator_eval.specs.{Meaning.Meanings.means, Meaning.Outcomes.Outcome}
use Rattle.interpolator_eval.proofs.MeaningLemmas.AskedLemmas.{asked_outcome}
use Rattle.interpolator_eval.proofs.MeaningLemmas.PlaceLemmas.{outcome_lies_from}
use Rattle.interpolator_pieces.specs.{Calls.WritesText, Calls.WritesLine, Lines.newline_means}
use Rattle.interpolator_pieces.proofs.LineLemmas.{line_done, line_fault, newline_place}

module _ {X : Type 0}
    (shows : X → Trait → Spec → Shown) (finds : List ℕ → Option (Slots X)) (bs : List ℕ) where
  -- what a format means is written
  pub text_written : (old new : Written) (answer : Option Answer) → IsUtf8 bs
      → Outcome (means shows (environment finds) (outermost (chars bs))) old new answer
      → WritesText shows finds bs old new answer
  text_written old new answer utf8 h = record {
    outcome = h;
    asked = asked_outcome shows (environment finds) (outermost (chars bs)) old new answer h;
    place = outcome_lies_from shows (environment finds) 0 (chars bs) (length bs) old new answer
        (omega (arith, size-chars bs utf8)) h;
  }

  -- a newline after a format without a fault
  pub line_written : (old mid new : Written) (answer : Option Answer)
      → WritesText shows finds bs old mid None → Outcome newline_means mid new answer
      → WritesLine shows finds bs old new answer
  line_written old mid new answer w h = record {
    outcome = line_done _ old mid new answer w.outcome h;
    asked = line_done _ old mid new answer w.asked h;
    place = newline_place (length bs) mid new answer h;
  }

  -- and none after a fault
  pub no_line : (old new : Written) (q : Answer) → WritesText shows finds bs old new (Some q)
      → WritesLine shows finds bs old new (Some q)
  no_line old new q w = record {
    outcome = line_fault _ old new q w.outcome;
    asked = line_fault _ old new q w.asked;
    place = w.place;
  }
