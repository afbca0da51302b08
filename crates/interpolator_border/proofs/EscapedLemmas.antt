-- What is told of a format whose values do not all stand.
use Rattle.std.proofs.Common.{◌≡◌, Err, List, inl, inr, ℕ}
use Rattle.std.proofs.lemmas.Str.{is_utf8-from_IsUtf8}
use Rattle.std.specs.Str.{IsUtf8, chars}
use Rattle.interpolator_syntax.specs.Places.{outermost}
use Rattle.interpolator_escapes.specs.Placing.{FailsFor, IfMisplaced, StandsFor}
use Rattle.interpolator_escapes.specs.declared.escape.Escape.{Escape}
use Rattle.interpolator_escapes.specs.declared.misplaced.PlaceError.{PlaceError}
use Rattle.interpolator_escapes.specs.declared.misplaced.PlaceError.TheVariants as errors
use Rattle.interpolator_border.specs.Escaped.{EscapedBy, TellsPlace}
use Rattle.interpolator_border.specs.declared.answer.Answer.{Answer as Reported_answer}
use Rattle.interpolator_border.specs.declared.field.Field.{Field}

-- the first value that does not stand is told, or that memory was wanted
pub place_reported : (escape : Escape) (fields items : List Field) (format old new : List ℕ)
    (answer : Reported_answer) (error : PlaceError) → IsUtf8 format
    → IfMisplaced {A = Unit {0}} (Err error) (λ _. StandsFor escape (outermost (chars format)) → ⊥)
    → IfMisplaced {A = Unit {0}} (Err error) (FailsFor escape (outermost (chars format)))
    → TellsPlace error old new answer → EscapedBy escape fields items format old new answer
place_reported escape fields items format old new answer (errors.Misplaced m) utf8 refused first reported =
    inr (inl (record {
      is_text = is_utf8-from_IsUtf8 format utf8;
      refused = refused;
      misplaced = m;
      first = first;
      reported = reported.0;
      put = reported.1;
    }))
place_reported escape fields items format old new answer errors.NoMemory utf8 refused first reported =
    inr (inr (inl reported))
