-- What is reported of a file, one thing after the other. Texts are bytes.
use Rattle.std.specs.Prelude.{◌≡◌, ◌⊎◌, ℕ, Bool, true, false, List, [], ◌∷◌, ◌++◌, string_bytes}
use Rattle.catalogue.specs.{Files.Line, Reports.reported_at, declared.files.File.File}
use Rattle.interpolator.specs.Positions.{line_at}

-- something is reported at a byte of a file: with its line's number
pub record IsReportedAt (file : File) (what reported : List ℕ) : Type 0 where
  pub byte : ℕ
  pub line : Line
  pub place : ℕ
  pub named : line.file ≡ string_bytes file.name
  pub numbered : line.number ≡ line_at (string_bytes file.text) byte
  pub says : reported ≡ reported_at line place what

-- nothing is reported; one thing and then another; something of each of some things
abbrev pub Nothing : List ℕ → Type 0
Nothing reported = reported ≡ []

abbrev pub Then : (first second : List ℕ → Type 0) → List ℕ → Type 0
Then first second reported =
    (one : List ℕ) × (other : List ℕ) × first one × second other × (reported ≡ one ++ other)

abbrev pub Each : {A : Type 0} → (A → List ℕ → Type 0) → List A → List ℕ → Type 0
Each tells [] reported = Nothing reported
Each tells (x ∷ xs) reported = Then (tells x) (Each tells xs) reported

-- something is reported only if this is so, or only unless that holds
abbrev pub When : Bool → (List ℕ → Type 0) → List ℕ → Type 0
When true tells reported = tells reported
When false tells reported = Nothing reported

abbrev pub Unless : Type 0 → (List ℕ → Type 0) → List ℕ → Type 0
Unless Holds tells reported = (Holds × Nothing reported) ⊎ ((¬ Holds) × tells reported)
