-- A keyword and the strings behind it, and the comments before an entry.
use Rattle.std.specs.Prelude.{ℕ, Bool, true, false, not, List, [], ◌∷◌, drop, take, map}
use Rattle.std.specs.Prelude.{if◌then◌else◌, string_bytes, Result, Ok, Err}
use Rattle.std.specs.{Borrow.Bor, List.concat, List.position_or_len, Str.bytes_eq}
use Rattle.po.specs.declared.fault.Problem.TheVariants.{Key, Text}
use Rattle.po.specs.declared.token.Note.TheVariants.{Fuzzy, Obsolete}
use Rattle.po.specs.{declared.fault.Fault.Fault, declared.fault.Problem.Problem}
use Rattle.po.specs.{declared.token.Placed.Placed, declared.token.Token.Token}
use Rattle.po.specs.declared.token.Token.TheVariants as tokens

-- a token is a comment, or else a string; or it is this word
abbrev pub is_token_of : (notes : Bool) → Token → Bool
is_token_of notes (tokens.Note note) = notes
is_token_of notes (tokens.Text text) = not notes
is_token_of notes (tokens.Word word) = false

abbrev pub is_of : (notes : Bool) → Placed → Bool
is_of notes one = is_token_of notes one.token

abbrev pub is_key_token : List ℕ → Token → Bool
is_key_token key (tokens.Word word) = bytes_eq (string_bytes word) key
is_key_token key _ = false

abbrev pub is_key : List ℕ → Placed → Bool
is_key key one = is_key_token key one.token

-- the comments, or else the strings, that tokens begin with, and what is after them
abbrev pub is_not_of : (notes : Bool) → Placed → Bool
is_not_of notes one = not (is_of notes one)

abbrev pub front : (notes : Bool) → List Placed → List Placed
front notes placed = take (position_or_len (is_not_of notes) placed) placed

abbrev pub after_front : (notes : Bool) → List Placed → List Placed
after_front notes placed = drop (position_or_len (is_not_of notes) placed) placed

-- comments say that what follows them is fuzzy: one of them does, after the last obsolete entry
abbrev pub fuzzy_by : Bool → Token → Bool
fuzzy_by so_far (tokens.Note Fuzzy) = true
fuzzy_by so_far (tokens.Note Obsolete) = false
fuzzy_by so_far _ = so_far

abbrev pub is_fuzzy : Bool → List Placed → Bool
is_fuzzy so_far [] = so_far
is_fuzzy so_far (one ∷ more) = is_fuzzy (fuzzy_by so_far one.token) more

-- the text that strings make
abbrev pub token_text : Token → List ℕ
token_text (tokens.Text text) = string_bytes text
token_text _ = []

abbrev pub text_of : List Placed → List ℕ
text_of placed = concat (map (λ one. token_text one.token) placed)

-- tokens that were taken, and those after them
abbrev pub Taken : Type 0
Taken = List Placed × List Placed

-- a problem at the next token, or at the end
abbrev pub fault_at : (end : ℕ) → Problem → List Placed → Fault
fault_at end problem [] = record { place = end; problem = problem }
fault_at end problem (one ∷ more) = record { place = one.place; problem = problem }

-- strings, of which there is at least one
abbrev pub some_strings : (end : ℕ) → List Placed → Result Taken Fault
some_strings end [] = Err (fault_at end Text [])
some_strings end (one ∷ more) =
    if is_of false one then Ok (front false (one ∷ more), after_front false (one ∷ more))
    else Err (fault_at end Text (one ∷ more))

-- a keyword and strings; or nothing, if another token is there
abbrev pub optional : (end : ℕ) → (key : List ℕ) → List Placed → Result Taken Fault
optional end key [] = Ok ([], [])
optional end key (one ∷ more) =
    if is_key key one then some_strings end more else Ok ([], one ∷ more)

-- a keyword and strings
abbrev pub section : (end : ℕ) → (key : List ℕ) → List Placed → Result Taken Fault
section end key [] = Err (fault_at end Key [])
section end key (one ∷ more) =
    if is_key key one then some_strings end more else Err (fault_at end Key (one ∷ more))

-- what a result is seen as
abbrev pub as_taken : Bor (List Placed) × Bor (List Placed) → Taken
as_taken taken = (taken.0.now, taken.1.now)

abbrev pub seen : {A B E : Type 0} → (A → B) → Result A E → Result B E
seen view (Ok x) = Ok (view x)
seen view (Err e) = Err e
