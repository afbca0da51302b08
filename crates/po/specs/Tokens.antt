-- The tokens of a file, with white space between them.
use Rattle.std.specs.Prelude.{◌≡◌, ◌≢◌, ⊤, ◌⊎◌, ℕ, Bool, ◌==◌, ◌-◌, List, [], ◌∷◌, codes, map, drop}
use Rattle.std.specs.Prelude.{length, take, if◌then◌else◌, string_bytes, Option, None, Some, Result}
use Rattle.std.specs.Prelude.{Ok, Err}
use Rattle.std.specs.List.{after_first, before_first, list_any, position_or_len, slice_split}
use Rattle.std.specs.{Borrow.Bor, Str.bytes_eq, Str.trim, Str.trim_start, declared.vec.Vec.Vec}
use Rattle.po.specs.Marks.{NotFirst, ends_word, hash, line_feed, quote}
use Rattle.po.specs.declared.token.Note.TheVariants.{Fuzzy, Obsolete, Plain}
use Rattle.po.specs.declared.{fault.Fault.Fault, fault.Problem.TheVariants.Key}
use Rattle.po.specs.declared.{fault.ReadError.ReadError, fault.ReadError.TheVariants.Broken}
use Rattle.po.specs.declared.{fault.ReadError.TheVariants.NoMemory, scan.At.At, token.Note.Note}
use Rattle.po.specs.declared.{token.Placed.Placed, token.Token.Token}
use Rattle.po.specs.{Steps.Leads, Strings.BreaksString, Strings.IsString}
use Rattle.po.specs.declared.token.Token.TheVariants as tokens

-- a comment by what it says, a word, or a string by its text
pub data Word : Type 0 where
  note : Note → Word
  word : List ℕ → Word
  string : List ℕ → Word

-- a token at its byte, borrows aside
abbrev pub Spot : Type 0
Spot = ℕ × Word

abbrev pub as_word : Token → Word
as_word (tokens.Note n) = note n
as_word (tokens.Word text) = word (string_bytes text)
as_word (tokens.Text text) = string (string_bytes text)

abbrev pub as_spot : Placed → Spot
as_spot placed = (placed.place, as_word placed.token)

abbrev pub texts_of : List (Bor (List ℕ)) → List (List ℕ)
texts_of texts = map (λ text. text.now) texts

-- one of some flags is `fuzzy`
abbrev pub has_fuzzy : List (List ℕ) → Bool
has_fuzzy flags = list_any (λ flag. bytes_eq (trim flag) (codes "fuzzy")) flags

-- what a comment says, of which this stands behind the `#`: `~` and anything, or `,` and flags
abbrev pub note_of : List ℕ → Note
note_of line =
    if bytes_eq (take 1 line) (codes "~") then Obsolete
    else if bytes_eq (take 1 line) (codes ",")
    then (if has_fuzzy (slice_split (λ b. b == 44) (drop 1 line)) then Fuzzy else Plain)
    else Plain

-- the longest front of a text that is a word, and what is after it
abbrev pub word_of : List ℕ → List ℕ
word_of text = take (position_or_len ends_word text) text

abbrev pub after_word : List ℕ → List ℕ
after_word text = drop (position_or_len ends_word text) text

-- a text begins with a token, and goes on with a rest: a comment is `#` and its line; a string is
-- between quotes; anything else is a word
abbrev pub IsToken : Word → (text rest : List ℕ) → Type 0
IsToken (note n) text rest = (more : List ℕ) × (text ≡ hash ∷ more)
    × (n ≡ note_of (before_first (λ b. b == line_feed) more))
    × (rest ≡ after_first (λ b. b == line_feed) more)
IsToken (string value) text rest =
    (more : List ℕ) × (text ≡ quote ∷ more) × IsString value more rest
IsToken (word w) text rest = NotFirst hash text × NotFirst quote text
    × (w ≢ []) × (w ≡ word_of text) × (rest ≡ after_word text)

-- a text begins with no token: a string is broken, or no word begins here
abbrev pub BreaksToken : (end : ℕ) → (text : List ℕ) → Fault → Type 0
BreaksToken end text fault =
    ((more : List ℕ) × (text ≡ quote ∷ more) × BreaksString end more fault)
    ⊎ (NotFirst hash text × NotFirst quote text × (text ≢ []) × (word_of text ≡ [])
    × (fault ≡ record { place = end - length text; problem = Key }))

-- behind its white space, a text begins with a token, in a file that ends at this byte
abbrev pub ReadsSpot : (end : ℕ) → (text : List ℕ) → Spot → (rest : List ℕ) → Type 0
ReadsSpot end text spot rest = IsToken spot.1 (trim_start text) rest
    × (spot.0 ≡ end - length (trim_start text))

-- a text has these tokens, from its beginning to its end
abbrev pub HasTokens : (text : List ℕ) → List Spot → Type 0
HasTokens text spots = (last : List ℕ) × Leads (ReadsSpot (length text)) text spots last
    × (trim_start last ≡ [])

-- a text has some tokens, and then none
abbrev pub IsBroken : (text : List ℕ) → Fault → Type 0
IsBroken text fault = (spots : List Spot) × (last : List ℕ)
    × Leads (ReadsSpot (length text)) text spots last
    × BreaksToken (length text) (trim_start last) fault

-- what a reader answers, at a token, at the next token or the end, and of a whole text
abbrev pub ReadsToken : (end : ℕ) → List ℕ → Result (Token × Bor (List ℕ)) ReadError → Type 0
ReadsToken end text (Ok (token, rest)) = IsToken (as_word token) text rest.now
ReadsToken end text (Err (Broken fault)) = BreaksToken end text fault
ReadsToken end text (Err NoMemory) = ⊤

abbrev pub ReadsNext : (end : ℕ) → List ℕ → Result (Option (Placed × At)) ReadError → Type 0
ReadsNext end text (Ok None) = trim_start text ≡ []
ReadsNext end text (Ok (Some (placed, after))) = ReadsSpot end text (as_spot placed) after.text.now
ReadsNext end text (Err (Broken fault)) = BreaksToken end (trim_start text) fault
ReadsNext end text (Err NoMemory) = ⊤

abbrev pub ReadsTokens : List ℕ → {Z : Type 0} → Result (Vec Placed Z) ReadError → Type 0
ReadsTokens text (Ok tokens) = HasTokens text (map as_spot tokens.items)
ReadsTokens text (Err (Broken fault)) = IsBroken text fault
ReadsTokens text (Err NoMemory) = ⊤
