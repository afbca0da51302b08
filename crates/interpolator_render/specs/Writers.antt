-- What is known of a writer, and the outcomes of a call that writes a text.
use Rattle.std.specs.Prelude.{◌≡◌, ◌⊎◌, ℕ, ◌+◌, ◌<◌, ◌≤◌, ◌-◌, ◌^◌, min, Bool, true, false, List}
use Rattle.std.specs.Prelude.{[], ◌∷◌, ◌++◌, length, take, Option, None, Some, IsUtf8, encode_utf8}
use Rattle.std.specs.Prelude.{encode_utf8_all, Result, MatchResult}
use Rattle.interpolator_render.specs.declared.text_write.Refusal.{Refusal}

-- a writer to which a writer above it passes its text: the name of the reference to it; in which way,
-- by a number that the writer above has for each; and what never changes of it, as in its origin
pub record Layer : Type 0 where
  pub name : ℕ
  pub way : ℕ
  pub bound : Option ℕ
  pub below : Option (List ℕ)

-- what never changes of a writer: how many bytes it takes in all, where it is known to have the
-- memory for all of them; what the writer below it contained at first, where that is known; and the
-- writers that it passes its text through by references, the nearest first
pub record Origin : Type 0 where
  pub bound : Option ℕ
  pub below : Option (List ℕ)
  pub through : List Layer

-- the origin of a writer of which none is known
abbrev pub plain : Origin
plain = record { bound = None; below = None; through = [] }

-- what is known of a writer: the characters that it took so far, whether it has refused a text, and
-- its origin
pub record Written : Type 0 where
  pub text : List ℕ
  pub refused : Bool
  pub origin : Origin

-- a buffer: what is known of it as of any writer, and how many bytes it can hold without more memory
pub record Buffered : Type 0 where
  pub text : List ℕ
  pub refused : Bool
  pub room : ℕ

-- a row of bytes begins with a text of `len` bytes. The places behind it are ready for more of the
-- text: none is, once a text was refused
pub record HoldsText (row : List ℕ) (len : ℕ) (refused : Bool) : Type 0 where
  pub within : len ≤ length row
  pub utf8 : IsUtf8 (take len row)
  pub none_ready : refused ≡ true → length row ≡ len

-- a buffer as a writer
abbrev pub as_writer : Buffered → Written
as_writer b = record { text = b.text; refused = b.refused; origin = plain }

-- the bytes of a text of characters
abbrev pub byte_count : List ℕ → ℕ
byte_count text = length (encode_utf8_all text)

-- the whole text was appended; a writer that had refused takes only the empty text
pub record Appends (old : Written) (text : List ℕ) (new : Written) : Type 0 where
  pub appended : new.text ≡ old.text ++ text
  pub same_flag : new.refused ≡ old.refused
  pub same_origin : new.origin ≡ old.origin
  pub only_empty : old.refused ≡ true → text ≡ []

-- a limit of bytes, and the one after `count` more: these and what is then left are within the
-- first
abbrev pub KeepsTo : Option ℕ → ℕ → Option ℕ → Type 0
KeepsTo None count after = Unit {0}
KeepsTo (Some most) count None = ⊥
KeepsTo (Some most) count (Some left) = count + left ≤ most

-- the whole text was appended, and a writer that is limited kept to its limit
abbrev pub AppendsWithin : Option ℕ → Option ℕ → Written → List ℕ → Written → Type 0
AppendsWithin None after old text new = Appends old text new
AppendsWithin (Some most) after old text new =
    Appends old text new × KeepsTo (Some most) (byte_count text) after

-- nothing was appended, and a writer that is limited kept to its limit
abbrev pub StaysWithin : Option ℕ → Option ℕ → Written → Written → Type 0
StaysWithin None after old new = new ≡ old
StaysWithin (Some most) after old new = (new ≡ old) × KeepsTo (Some most) 0 after

-- how many bytes the first character of a text has
abbrev pub first_size : List ℕ → ℕ
first_size [] = 0
first_size (c ∷ cs) = length (encode_utf8 c)

-- a writer with this bound, which had not refused before, refuses only what would give its text more
-- bytes than that: so many
abbrev pub GoesOver : Option ℕ → Bool → ℕ → Type 0
GoesOver None refused bytes = Unit {0}
GoesOver (Some most) true bytes = Unit {0}
GoesOver (Some most) false bytes = most < bytes

-- a proper beginning of the text was appended, none of it if the writer had refused before, and
-- the rest was refused: a writer that has a bound refuses only a character that goes over it
pub record AppendsBeginning (old : Written) (text : List ℕ) (new : Written) : Type 0 where
  pub beginning : List ℕ
  pub rest : List ℕ
  pub parts : text ≡ beginning ++ rest
  pub not_whole : 0 < length rest
  pub appended : new.text ≡ old.text ++ beginning
  pub flag_set : new.refused ≡ true
  pub none_after_refusal : old.refused ≡ true → beginning ≡ []
  pub same_origin : new.origin ≡ old.origin
  pub over : GoesOver old.origin.bound old.refused (byte_count new.text + first_size rest)

-- a proper beginning of `taken` bytes was appended, and the rest was refused
pub record Refuses (old : Written) (text : List ℕ) (taken : ℕ) (new : Written) : Type 0 where
  pub part : AppendsBeginning old text new
  pub counted : taken ≡ byte_count part.beginning

-- a writer may refuse for want of memory: it has no bound that it has the memory for, or it had
-- refused before
abbrev pub MayLackMemory : Written → Type 0
MayLackMemory old = (old.origin.bound ≡ None) ⊎ (old.refused ≡ true)

-- nothing was taken, and the flag alone was set, for want of memory
abbrev pub RefusesWhole : Written → ℕ → Written → Type 0
RefusesWhole old taken new =
    (taken ≡ 0) × (new ≡ record old { refused = true }) × MayLackMemory old

-- a buffer may refuse a text: it has refused before, or it has no room for so many bytes
abbrev pub MayRefuse : Buffered → ℕ → Type 0
MayRefuse b count = (b.refused ≡ true) ⊎ (b.room < byte_count b.text + count)

-- a refusal of a text that may be longer than any `&str`: the greatest `usize` stands for a greater
-- count
pub record RefusesLong (old : Written) (text : List ℕ) (taken : ℕ) (new : Written) : Type 0 where
  pub part : AppendsBeginning old text new
  pub counted : taken ≡ min (byte_count part.beginning) (2 ^ 64 - 1)

-- a call that writes the text, or is refused on the way
abbrev pub Puts : Written → List ℕ → Result (Unit {0}) Refusal → Written → Type 0
Puts old text result new =
    MatchResult result (λ _. Appends old text new) (λ r. RefusesLong old text r.taken new)

-- a call that writes the text, or is refused on the way, whatever the error says
abbrev pub Writes : {E : Type 0} → Written → List ℕ → Result (Unit {0}) E → Written → Type 0
Writes old text result new =
    MatchResult result (λ _. Appends old text new) (λ _. AppendsBeginning old text new)
