-- Places in the outermost format text, counted in bytes, and the characters from there on.
use Rattle.std.specs.Prelude.{ℕ, Bool, ◌+◌, ◌==◌, if◌then◌else◌, List, [], ◌∷◌, map, Option, Some}
use Rattle.std.specs.Prelude.{None}
use Rattle.std.specs.{Char.len_utf8, Str.chars}
use Rattle.interpolator_syntax.specs.Classes.{front_of, after_of}
use Rattle.interpolator_syntax.specs.declared.cursor.Cursor.{Cursor}

-- how many bytes the characters take
abbrev pub size : List ℕ → ℕ
size [] = 0
size (c ∷ cs) = len_utf8 c + size cs

-- characters, each with a place
abbrev pub Placed : Type 0
Placed = List (ℕ × ℕ)

-- the characters without their places
abbrev pub text_of : Placed → List ℕ
text_of xs = map (λ x. x.0) xs

-- characters of the format from a place on, one after the other
abbrev pub placed_from : ℕ → List ℕ → Placed
placed_from p [] = []
placed_from p (c ∷ cs) = (c, p) ∷ placed_from (p + len_utf8 c) cs

-- characters, all with the same place
abbrev pub placed_at : ℕ → List ℕ → Placed
placed_at p cs = map (λ c. (c, p)) cs

-- a place in the outermost text, and the characters from there on
pub record At : Type 0 where
  pub place : ℕ
  pub text : List ℕ

-- a whole format, which begins at byte 0
abbrev pub outermost : List ℕ → At
outermost cs = record { place = 0; text = cs }

-- the place of a cursor, and the text from there on
abbrev pub at : Cursor → At
at c = record { place = c.place; text = chars c.rest.now }

-- the first character of a text at a place, and the text after it
abbrev pub first_of : ℕ → List ℕ → Option (ℕ × At)
first_of p [] = None
first_of p (c ∷ cs) = Some (c, record { place = p + len_utf8 c; text = cs })

-- the first character of the text at a, if there is one, and the text after it
abbrev pub first : At → Option (ℕ × At)
first a = first_of a.place a.text

-- the text after the longest front whose characters pass
abbrev pub after : (ℕ → Bool) → At → At
after passes a =
    record { place = a.place + size (front_of passes a.text); text = after_of passes a.text }

-- the text after the character c, if a text at p begins with it
abbrev pub strip_of : ℕ → ℕ → List ℕ → Option At
strip_of c p [] = None
strip_of c p (d ∷ ds) = if d == c then Some (record { place = p + len_utf8 d; text = ds }) else None

-- the text after the character c, if the text at a begins with it
abbrev pub strip : ℕ → At → Option At
strip c a = strip_of c a.place a.text

-- the end of the text
abbrev pub all_after : At → At
all_after a = record { place = a.place + size a.text; text = [] }
