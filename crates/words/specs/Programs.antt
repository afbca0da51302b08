-- What programs ask of words, and of the texts of files. Texts are bytes.
use Rattle.std.specs.Prelude.{ℕ, Bool, List, [], ◌∷◌, codes, drop, eqb, take, if◌then◌else◌, Option}
use Rattle.std.specs.Prelude.{None, Some, string_bytes}
use Rattle.std.specs.{List.starts_with, Str.bytes_eq, declared.string.String.String}

-- a word begins as flags do
abbrev pub is_flag : List ℕ → Bool
is_flag word = starts_with eqb word (codes "-")

-- the byte order mark, which some editors write at the head of a file
abbrev pub mark : List ℕ
mark = 239 ∷ 187 ∷ 191 ∷ []

-- a text without it
abbrev pub without_mark : List ℕ → List ℕ
without_mark text = if bytes_eq (take 3 text) mark then drop 3 text else text

-- the text for which a single word asks
abbrev pub about : {Z : Type 0} → List (String Z) → (help version : List ℕ) → Option (List ℕ)
about (word ∷ []) help version =
    if bytes_eq (string_bytes word) (codes "--help") then Some help
    else if bytes_eq (string_bytes word) (codes "--version") then Some version
    else None
about _ help version = None
