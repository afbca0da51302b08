-- What is written for the characters of a text.
use Rattle.std.specs.Prelude.{◌≡◌, ⊤, ℕ, Bool, true, false, not, ◌==◌, ◌||◌, ◌-◌, nat_lt, List, []}
use Rattle.std.specs.Prelude.{◌∷◌, if◌then◌else◌, length, map, encode_utf8, string_bytes, Option}
use Rattle.std.specs.Prelude.{None, Some, Result, Ok, Err}
use Rattle.std.specs.{Char.len_utf8, Str.chars, Str.encode_utf8_all, declared.string.String.String}
use Rattle.folds.specs.declared.spelling.After.TheVariants.{Start, Text, Slash}
use Rattle.folds.specs.declared.spelling.ReadError.TheVariants.{Broken, NoMemory}
use Rattle.folds.specs.declared.{spelling.After.After, spelling.At.At, spelling.ReadError.ReadError}

-- what a text ends with after a character, and the character that this means, if it means one
abbrev pub Step : Type 0
Step = Option (After × Option ℕ)

-- behind a backslash: `n` a line end, and a backslash itself
abbrev pub escape : ℕ → Step
escape c =
    if c == 110 then Some (Start, Some 10) else if c == 92 then Some (Text, Some 92) else None

-- elsewhere: a backslash nothing yet, a line end what is said, and any other character itself
abbrev pub plain : After → (end : Option ℕ) → ℕ → Step
plain after end c =
    if c == 92 then Some (Slash, None) else if c == 10 then Some (after, end)
    else Some (Text, Some c)

-- a line end means a blank, and nothing where a line begins
abbrev pub step : After → ℕ → Step
step Slash c = escape c
step Start c = plain Start None c
step Text c = plain Text (Some 32) c

-- how many bytes are left at the beginning of what writes the next character
abbrev pub begin_by : After → (begin left : ℕ) → ℕ
begin_by Slash begin left = begin
begin_by Start begin left = left
begin_by Text begin left = left

abbrev pub begin_of : At → ℕ
begin_of at = begin_by at.after at.begin at.left

-- how far a text is read after one more character
abbrev pub passed : At → After → ℕ → At
passed at after c =
    record { after = after; begin = begin_of at; left = at.left - len_utf8 c }

-- a backslash is read, and nothing behind it
abbrev pub is_slash : After → Bool
is_slash Slash = true
is_slash Start = false
is_slash Text = false

abbrev pub is_open : At → Bool
is_open at = is_slash at.after

-- nothing is read
abbrev pub start_of : List ℕ → At
start_of written = record { after = Start; begin = length written; left = length written }

-- characters, each with the number of bytes that are left where it is written; and that number for
-- a backslash that is wrong, if one is
pub record Spelling : Type 0 where
  pub meant : List (ℕ × ℕ)
  pub wrong : Option ℕ

-- one more character before others, if there is one
abbrev pub and_meant : Option ℕ → (begin : ℕ) → Spelling → Spelling
and_meant None begin rest = rest
and_meant (Some c) begin rest = record { meant = (c, begin) ∷ rest.meant; wrong = rest.wrong }

-- a backslash is wrong
abbrev pub wrong_at : ℕ → Spelling
wrong_at begin = record { meant = []; wrong = Some begin }

-- what is made of a step, if it is not wrong
abbrev pub by_step : Step → (begin : ℕ) → (After → Spelling) → Spelling
by_step None begin go = wrong_at begin
by_step (Some next) begin go = and_meant next.1 begin (go next.0)

-- what is left of a text writes
abbrev pub spelled : At → List ℕ → Spelling
spelled at [] =
    if is_open at then wrong_at (begin_of at) else record { meant = []; wrong = None }
spelled at (c ∷ cs) =
    by_step (step at.after c) (begin_of at) (λ after. spelled (passed at after c) cs)

-- what a text writes
abbrev pub spelling : List ℕ → Spelling
spelling written = spelled (start_of written) (chars written)

-- the bytes of characters
abbrev pub bytes_of_one : Option ℕ → List ℕ
bytes_of_one None = []
bytes_of_one (Some c) = encode_utf8 c

abbrev pub bytes_of : List (ℕ × ℕ) → List ℕ
bytes_of meant = encode_utf8_all (map (λ one. one.0) meant)

-- a text, unless a backslash is wrong where so many of some bytes are left: then its byte
abbrev pub unless_wrong : (whole : ℕ) → (text : List ℕ) → Option ℕ → Result (List ℕ) ℕ
unless_wrong whole text None = Ok text
unless_wrong whole text (Some left) = Err (whole - left)

-- the text that is written so, or the byte of the first backslash that is wrong
abbrev pub text_in : List ℕ → Result (List ℕ) ℕ
text_in written = unless_wrong (length written) (bytes_of (spelling written).meant)
    (spelling written).wrong

-- what a function returned is that
abbrev pub Reads : List ℕ → {Z : Type 0} → Result (String Z) ReadError → Type 0
Reads written (Ok text) = text_in written ≡ Ok (string_bytes text)
Reads written (Err (Broken place)) = text_in written ≡ Err place
Reads written (Err NoMemory) = ⊤

-- how many bytes of a text are left to pass after a character; none, if it has the byte
abbrev pub byte_after : ℕ → Option ℕ → Option ℕ
byte_after byte None = Some byte
byte_after byte (Some c) = if nat_lt byte (len_utf8 c) then None else Some (byte - len_utf8 c)

-- how many bytes are left where a byte of some characters is written
abbrev pub left_at : ℕ → List (ℕ × ℕ) → ℕ
left_at byte [] = 0
left_at byte (one ∷ more) =
    if nat_lt byte (len_utf8 one.0) then one.1 else left_at (byte - len_utf8 one.0) more

-- the byte at which a byte of the text is written
abbrev pub place_in : (written : List ℕ) → (byte : ℕ) → ℕ
place_in written byte = length written - left_at byte (spelling written).meant

-- a character that is written as it is: no backslash and no line end
abbrev pub stands_alone : ℕ → Bool
stands_alone c = not (c == 92 || c == 10)
