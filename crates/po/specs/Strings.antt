-- How a text is written in a string.
use Rattle.std.specs.Prelude.{◌≡◌, ◌⊎◌, ⊤, ℕ, Bool, true, ◌||◌, ◌&&◌, ◌==◌, ◌+◌, ◌-◌, ◌*◌, nat_le}
use Rattle.std.specs.Prelude.{nat_lt, List, [], ◌∷◌, length, string_bytes, if◌then◌else◌, Option}
use Rattle.std.specs.Prelude.{None, Some, Result, Ok, Err}
use Rattle.std.specs.Option.{option_map, option_or}
use Rattle.std.specs.{Borrow.Bor, declared.string.String.String}
use Rattle.po.specs.Marks.{backslash, is_plain, line_feed, quote}
use Rattle.po.specs.{Steps.Leads, declared.fault.Fault.Fault, declared.fault.Problem.Problem}
use Rattle.po.specs.declared.fault.Problem.TheVariants as problems
use Rattle.po.specs.declared.fault.ReadError.{ReadError}
use Rattle.po.specs.declared.fault.ReadError.TheVariants.{Broken, NoMemory}

-- the byte that a letter stands for behind a backslash: `n t r a b f v \ "`
abbrev pub control : ℕ → Option ℕ
control c =
    if c == 110 then Some 10
    else if c == 116 then Some 9
    else if c == 114 then Some 13
    else if c == 97 then Some 7
    else if c == 98 then Some 8
    else if c == 102 then Some 12
    else if c == 118 then Some 11
    else if c == backslash || c == quote then Some c
    else None

-- the byte of three octal digits, from `001` to `177`
abbrev pub is_octal : ℕ → Bool
is_octal c = nat_le 48 c && nat_lt c 56

abbrev pub octal_value : (a b c : ℕ) → ℕ
octal_value a b c = (a - 48) * 64 + ((b - 48) * 8 + (c - 48))

abbrev pub is_code : (a b c : ℕ) → Bool
is_code a b c = nat_le 48 a && nat_lt a 50 && is_octal b && is_octal c
    && nat_lt 0 (octal_value a b c)

abbrev pub octal : (a b c : ℕ) → Option ℕ
octal a b c = if is_code a b c then Some (octal_value a b c) else None

-- the byte that is written behind a backslash, and what is behind it
abbrev pub letter_at : List ℕ → Option (ℕ × List ℕ)
letter_at [] = None
letter_at (c ∷ rest) = option_map (λ b. (b, rest)) (control c)

abbrev pub octal_at : List ℕ → Option (ℕ × List ℕ)
octal_at (a ∷ b ∷ c ∷ rest) = option_map (λ n. (n, rest)) (octal a b c)
octal_at _ = None

abbrev pub escape_at : List ℕ → Option (ℕ × List ℕ)
escape_at text = option_or (letter_at text) (octal_at text)

-- a text begins with a byte of a string: one that stands for itself, or an escape
abbrev pub ReadsByte : (text : List ℕ) → (b : ℕ) → (rest : List ℕ) → Type 0
ReadsByte text b rest = ((is_plain b ≡ true) × (text ≡ b ∷ rest))
    ⊎ ((more : List ℕ) × (text ≡ backslash ∷ more) × (escape_at more ≡ Some (b, rest)))

-- behind an opening quote, a text has these bytes, and the closing quote
abbrev pub IsString : (value text rest : List ℕ) → Type 0
IsString value text rest = Leads ReadsByte text value (quote ∷ rest)

-- a string goes no further: the text ends, or its line, or there is a NUL; or no escape follows a
-- backslash
abbrev pub EndsOpen : List ℕ → Type 0
EndsOpen tail = (tail ≡ []) ⊎ ((more : List ℕ) × ((tail ≡ line_feed ∷ more) ⊎ (tail ≡ 0 ∷ more)))

abbrev pub StopsString : Problem → (tail : List ℕ) → Type 0
StopsString problems.Unclosed tail = EndsOpen tail
StopsString problems.Escape tail =
    (more : List ℕ) × (tail ≡ backslash ∷ more) × (escape_at more ≡ None)
StopsString _ tail = ⊥

-- behind an opening quote, a text has some bytes, and then goes no further, in a file that ends at
-- this byte
pub record BreaksString (end : ℕ) (text : List ℕ) (fault : Fault) : Type 0 where
  pub value : List ℕ
  pub tail : List ℕ
  pub read : Leads ReadsByte text value tail
  pub stops : StopsString fault.problem tail
  pub placed : fault.place ≡ end - length tail

-- a string was read behind its opening quote, or is broken, or memory ran out
abbrev pub ReadsString : (end : ℕ) → List ℕ → {Z : Type 0}
    → Result (String Z × Bor (List ℕ)) ReadError → Type 0
ReadsString end text (Ok (value, rest)) = IsString (string_bytes value) text rest.now
ReadsString end text (Err (Broken fault)) = BreaksString end text fault
ReadsString end text (Err NoMemory) = ⊤

-- what comes where no byte stands for itself: the end of the string, an escape, or neither
abbrev pub IsSpecial : List ℕ → Result (Option ℕ × Bor (List ℕ)) Problem → Type 0
IsSpecial text (Ok (None, rest)) = text ≡ quote ∷ rest.now
IsSpecial text (Ok (Some b, rest)) =
    (more : List ℕ) × (text ≡ backslash ∷ more) × (escape_at more ≡ Some (b, rest.now))
IsSpecial text (Err problem) = StopsString problem text
