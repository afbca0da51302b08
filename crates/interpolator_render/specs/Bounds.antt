-- What a bounded writer holds, what it takes of a text, and why it refuses the rest.
use Rattle.std.specs.Prelude.{◌≡◌, ◌⊎◌, ℕ, ◌+◌, ◌<◌, ◌≤◌, ◌-◌, Bool, true, List, [], ◌++◌}
use Rattle.std.specs.Prelude.{◌∷◌, length, encode_utf8, if◌then◌else◌, None, Some}
use Rattle.interpolator_render.specs.Writers.{Written, Origin, byte_count}

-- a bounded writer: what is known of it as of any writer, how many bytes it takes in all, whether it
-- took the memory for all of them at first, and how many its `String` can hold without more memory
pub record BoundedText : Type 0 where
  pub text : List ℕ
  pub refused : Bool
  pub most : ℕ
  pub ready : Bool
  pub room : ℕ

-- the origin of a bounded writer: its bound is known if it has the memory for it
abbrev pub bounded : ℕ → Bool → Origin
bounded most ready = record {
  bound = if ready then Some most else None;
  below = None;
  through = [];
}

-- a bounded writer as a writer
abbrev pub bounded_writer : BoundedText → Written
bounded_writer b =
    record { text = b.text; refused = b.refused; origin = bounded b.most b.ready }

-- of the memory that it took at first nothing is lost
abbrev pub IsReady : Bool → ℕ → ℕ → Type 0
IsReady ready most room = ready ≡ true → most ≤ room

-- its text has at most the bytes of its bound
abbrev pub IsWithinBound : BoundedText → Type 0
IsWithinBound b = byte_count b.text ≤ b.most

-- how many bytes it would still take: none once it has refused
abbrev pub bytes_left : BoundedText → ℕ
bytes_left b = if b.refused then 0 else b.most - byte_count b.text

-- a beginning of the text was appended, and the character after it would go over the bound
pub record NextGoesOver (old : BoundedText) (text : List ℕ) (new : BoundedText) : Type 0 where
  pub beginning : List ℕ
  pub next : ℕ
  pub rest : List ℕ
  pub parts : text ≡ beginning ++ (next ∷ rest)
  pub appended : new.text ≡ old.text ++ beginning
  pub over : old.most < byte_count new.text + length (encode_utf8 next)

-- nothing was appended, and the `String` would have needed more memory for what the bound allows of
-- the text
pub record LacksMemory (old : BoundedText) (text : List ℕ) (new : BoundedText) : Type 0 where
  pub unchanged : new.text ≡ old.text
  pub below_text : old.room < byte_count old.text + byte_count text
  pub below_most : old.room < old.most

-- why a text was refused: an earlier refusal, the bound, or memory
abbrev pub RefusesFor : BoundedText → List ℕ → BoundedText → Type 0
RefusesFor old text new =
    (old.refused ≡ true) ⊎ (NextGoesOver old text new ⊎ LacksMemory old text new)
