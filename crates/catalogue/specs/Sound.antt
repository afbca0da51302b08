-- Lines and files in which nothing is wrong.
use Rattle.std.specs.Prelude.{◌≡◌, ◌⊎◌, ⊤, ℕ, Bool, true, false, List, [], ◌∷◌, None, Some, Result}
use Rattle.std.specs.Prelude.{Ok, Err}
use Rattle.catalogue.specs.Declarations.{Declared, nothing, these, broken}
use Rattle.catalogue.specs.Files.{Line, Page, lines_of}
use Rattle.catalogue.specs.Lines.{declared_of, is_passed_over, key_of, key_with, opens}
use Rattle.catalogue.specs.{Examples.faults_of, Formats.format_of, Keys.IsNew, Keys.with_key}
use Rattle.catalogue.specs.{Rules.rule_in, Rules.wrong_in}
use Rattle.folds.specs.Lines.{goes_on}
use Rattle.words.specs.Words.{HasEquals}

-- a format has no fault: by itself, if nothing is declared, or with examples of what is declared
abbrev pub IsSoundOver : Declared → List ℕ → Type 0
IsSoundOver nothing format = faults_of nothing format ≡ []
IsSoundOver (these declared) format = faults_of (these declared) format ≡ []
IsSoundOver (broken place) format = ⊥

-- a line has a rule that is whole, before any rule or message
pub record IsRule (keys : List (ℕ × List ℕ)) (line : List ℕ) : Type 0 where
  pub rule : List ℕ
  pub ruled : rule_in line ≡ Some rule
  pub first : keys ≡ []
  pub whole : wrong_in rule ≡ None

-- no backslash of a format is wrong, and it has no fault
abbrev pub IsSoundFormat : Declared → Result (List ℕ) ℕ → Type 0
IsSoundFormat declared (Err place) = ⊥
IsSoundFormat declared (Ok format) = IsSoundOver declared format

-- a line has a key that is not among these, nothing in its head is broken, and its format is sound
abbrev pub IsSoundMessage : List (ℕ × List ℕ) → Line → Type 0
IsSoundMessage keys line = HasEquals line.text × IsNew keys (key_of line.text)
    × IsSoundFormat (declared_of line.text) (format_of line)

-- a line is skipped, and goes on only with a message
abbrev pub IsSkipped : (is_open : Bool) → List ℕ → Type 0
IsSkipped is_open line =
    (is_passed_over line ≡ true) × (goes_on line ≡ true → is_open ≡ true)

-- a line is sound after others with these keys: it is skipped, or has a rule or a message
abbrev pub IsSound : List (ℕ × List ℕ) → (is_open : Bool) → Line → Type 0
IsSound keys is_open line =
    IsSkipped is_open line.text ⊎ IsRule keys line.text ⊎ IsSoundMessage keys line

-- lines are sound after others with these keys: each is, after all before it
abbrev pub AreSound : List (ℕ × List ℕ) → (is_open : Bool) → List Line → Type 0
AreSound keys is_open [] = ⊤
AreSound keys is_open (line ∷ rest) = IsSound keys is_open line
    × AreSound (with_key keys line.number (key_with line.text)) (opens is_open line.text) rest

-- the lines of a file are sound
abbrev pub IsSoundFile : Page → Type 0
IsSoundFile page = AreSound [] false (lines_of page)
