-- What the program does with a command line.
use Rattle.std.specs.Prelude.{◌≡◌, ◌⊎◌, ℕ, List, [], ◌∷◌, All, Option, string_bytes}
use Rattle.std.specs.{Str.chars, Io.KnownBytes.Keeps, declared.string.String.String}
use Rattle.interpolator.specs.{declared.View.View, Places.outermost}
use Rattle.interpolator.specs.{Meaning.Environments.environment}
use Rattle.interpolator.specs.{Faults.no_memory, Meaning.Meanings.means, Slots.Slots}
use Rattle.interpolator.specs.Views.{shown_as_value}
use Rattle.words.specs.Words.{IsGood}
use Rattle.ifmt.specs.Binding.{AreBound}
use Rattle.ifmt.specs.Run.{Puts, Runs, Tells, complaint, usage_line}

module _ {Z : Type 0} where
  -- each of the words means something
  abbrev pub AllGood : List (String Z) → Type 0
  AllGood words = All (λ word. IsGood (string_bytes word)) words

  -- the first of the words that means nothing
  abbrev pub IsFirstBad : List (String Z) → (bad : List ℕ) → Type 0
  IsFirstBad [] bad = ⊥
  IsFirstBad (word ∷ words) bad = (IsGood (string_bytes word) × IsFirstBad words bad)
      ⊎ (¬ (IsGood (string_bytes word)) × (string_bytes word ≡ bad))

  -- what is written of a wrong command line: without a format, how the program is called; else the
  -- first bad word
  pub data IsReported : List (String Z) → List ℕ → Type 0 where
    no_format : IsReported [] usage_line
    bad_word : {format : String Z} {words : List (String Z)} (bad : List ℕ) →
        IsFirstBad words bad → IsReported (format ∷ words) (complaint bad)

-- the bytes that `out` and `err` are known to hold before and after, and the status
module _ {Z : Type 0} (out_old out_new err_old err_new : Option (List ℕ)) (status : ℕ) where
  -- the format was run over what the words bind
  pub record RunsOver (format : List ℕ) (words : List (String Z)) : Type 0 where
    pub finds : List ℕ → Option (Slots View)
    pub bound : AreBound words finds
    pub runs : Runs out_old out_new err_old err_new status
        (means (λ view _ _. shown_as_value view) (environment finds) (outermost (chars format)))

  -- what is wrong with a wrong command line was written to `err`, with status 2; a sound one was
  -- run, or memory ran out before that; after a failed write the status is 3
  pub data Answers : List (String Z) → Type 0 where
    wrong : {line : List (String Z)} {text : List ℕ} → IsReported line text →
        Keeps out_old out_new → Puts 2 err_old err_new text status → Answers line
    ran : {format : String Z} {words : List (String Z)} →
        RunsOver (string_bytes format) words → Answers (format ∷ words)
    wanted_memory : {format : String Z} {words : List (String Z)} → AllGood words →
        Tells out_old out_new err_old err_new status no_memory → Answers (format ∷ words)
