-- The words after the flags of a command line.
use Rattle.std.specs.Prelude.{◌≡◌, ◌++◌, Bool, List, [], ◌∷◌, codes, if◌then◌else◌, Option, None}
use Rattle.std.specs.Prelude.{Some, string_bytes}
use Rattle.std.specs.{List.list_any, Str.bytes_eq, declared.string.String.String}
use Rattle.words.specs.Programs.{is_flag}

-- words are an end of a line, behind some others
abbrev pub IsEnd : {A : Type 0} → (line words : List A) → Type 0
IsEnd {A} line words = (front : List A) × (line ≡ front ++ words)

-- a word of a line looks like a flag
abbrev pub has_flag : {Z : Type 0} → List (String Z) → Bool
has_flag words = list_any (λ word. is_flag (string_bytes word)) words

-- the words after `--`, if it is the first
abbrev pub after_end : {Z : Type 0} → List (String Z) → Option (List (String Z))
after_end [] = None
after_end (word ∷ words) = if bytes_eq (string_bytes word) (codes "--") then Some words else None

-- the files that words name: all after `--`, or else all, if none looks like a flag
abbrev pub files_in : {Z : Type 0} → List (String Z) → Option (List (String Z))
files_in words = if has_flag words then after_end words else Some words

-- the files that are named behind the first words of a line
abbrev pub AreAfter : {Z : Type 0} → (line : List (String Z)) → Option (List (String Z)) → Type 0
AreAfter {Z} line files = (rest : List (String Z)) × IsEnd line rest × (files ≡ files_in rest)
