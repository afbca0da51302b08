-- What is written through a writer on top of a formatter is written to the formatter.
use Rattle.std.proofs.Common.{arith, ◌≡◌, List, [], ◌∷◌, ℕ, Option, Result, OnOk}
use Rattle.std.proofs.Output.{has_written_styled_nil, has_written_styled_append}
use Rattle.std.specs.List.{FoldsTo, concat}
use Rattle.std.specs.Fmt.{IsFlush, HasWrittenStyled, WritesText, DisplaysOnOk, DisplaysStyledOnOk}
use Rattle.std.specs.{declared.fmt.Formatter.Formatter, declared.fmt.Error.Error}

module _ {W : Type 0} (took : W → List ℕ → W → Type 0) where
  -- a text that is written whatever the options are is written if there are none
  pub displays_plainly : (f g : Formatter W) (result : Result (Unit {0}) Error)
      (text : Option (List ℕ)) → DisplaysStyledOnOk took f result text g
      → DisplaysOnOk took f result text g
  displays_plainly f g result text shown = grind arith

  module _ {S N : Type 0} (name : S → N) (below : S → Formatter W) where
    -- a call is passed on to the formatter below
    abbrev pub Through : S → List ℕ → S → Type 0
    Through old text new = (name new ≡ name old)
        × (IsFlush (below old) → HasWrittenStyled took (below old) text (below new))

    calls_through : (old : S) (parts : List (List ℕ)) (new : S) → FoldsTo Through old parts new
        → Through old (concat parts) new
    calls_through old [] new same = grind (arith, has_written_styled_nil)
    calls_through old (part ∷ parts) new calls =
        grind (arith, has_written_styled_append, calls_through calls.0 parts new calls.2)

    -- calls that are each passed on to the formatter are passed on together
    pub displays_through : (old new : S) (g : Formatter W) (result : Result (Unit {0}) Error)
        (text : Option (List ℕ)) → (name new ≡ name old → g ≡ below new)
        → OnOk result (WritesText Through old text new)
        → DisplaysStyledOnOk took (below old) result text g
    displays_through old new g result text back written = grind (arith, calls_through)
