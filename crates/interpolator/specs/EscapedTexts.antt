-- What a call owes that makes the text of a format whose values are escaped.
use Rattle.std.specs.Prelude.{◌≡◌, ◌⊎◌, ◌<◌, ℕ, List, length, Option, Result, Ok, Err}
use Rattle.std.specs.{Str.chars, declared.string.String.String}
use Rattle.interpolator_render.specs.{Views.Shown, declared.view.Spec.Spec}
use Rattle.interpolator_render.specs.declared.view.Trait.{Trait}
use Rattle.interpolator_syntax.specs.Faults.{answer_of, no_memory}
use Rattle.interpolator_syntax.specs.{Places.outermost, FaultTexts.error_text}
use Rattle.interpolator_syntax.specs.declared.error.Error.TheVariants.{NoMemory}
use Rattle.interpolator_eval.specs.Slots.{Slots}
use Rattle.interpolator_escapes.specs.{Formats.escaped_shows, Placing.FailsFor, Placing.StandsFor}
use Rattle.interpolator_escapes.specs.{PlaceTexts.misplaced_text, declared.escape.Escape.Escape}
use Rattle.interpolator_escapes.specs.declared.misplaced.PlaceError.{PlaceError}
use Rattle.interpolator_escapes.specs.declared.misplaced.PlaceError.TheVariants as places
use Rattle.interpolator_pieces.specs.Calls.{MakesText}
use Rattle.interpolator.specs.declared.escaped_text.EscapeError.{EscapeError}
use Rattle.interpolator.specs.declared.escaped_text.EscapeError.TheVariants.{Misplaced, Fault}

-- an error of places, as one of texts
abbrev pub of_place : PlaceError → EscapeError
of_place (places.Misplaced m) = Misplaced m
of_place places.NoMemory = Fault NoMemory

-- what `{}` writes
abbrev pub escape_error_text : EscapeError → List ℕ
escape_error_text (Misplaced m) = misplaced_text m
escape_error_text (Fault error) = error_text error

-- an escape, what values show, what a context finds, and the bytes of a format
module _ {X : Type 0} (escape : Escape)
    (shows : X → Trait → Spec → Shown) (finds : List ℕ → Option (Slots X)) (bs : List ℕ) where
  -- the text is made, or its fault told, of a format whose values all stand; or the first that does
  -- not is told; or that memory ran out
  abbrev pub MakesEscaped : {Z : Type 0} → Result (String Z) EscapeError → Type 0
  MakesEscaped (Ok text) =
      StandsFor escape (outermost (chars bs))
      × MakesText (escaped_shows escape shows) finds bs (Ok text)
  MakesEscaped {Z = z} (Err (Fault error)) =
      (answer_of error ≡ no_memory)
      ⊎ (StandsFor escape (outermost (chars bs))
      × MakesText (escaped_shows escape shows) finds bs {Z = z} (Err error))
  MakesEscaped (Err (Misplaced m)) =
      (StandsFor escape (outermost (chars bs)) → ⊥)
      × FailsFor escape (outermost (chars bs)) m × (m.place < length bs)
