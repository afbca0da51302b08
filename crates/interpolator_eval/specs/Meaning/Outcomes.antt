-- The three outcomes of writing what a format means.
use Rattle.std.specs.Prelude.{◌≡◌, ℕ, [], ◌∷◌, ◌++◌, length, Contains, Option, None, ⊤, Some}
use Rattle.std.specs.Prelude.{option_map, true, ◌⊎◌, Result, MatchResult, string_bytes, encode_utf8}
use Rattle.std.specs.Prelude.{◌+◌}
use Rattle.std.specs.{Str.chars, declared.string.String.String}
use Rattle.interpolator_render.specs.Writers.{Written, Appends, GoesOver, byte_count}
use Rattle.interpolator_syntax.specs.Faults.{Answer, fault, no_memory, fmt, answer_of}
use Rattle.interpolator_syntax.specs.{declared.error.Error.Error, Places.Placed, Places.text_of}
use Rattle.interpolator_eval.specs.Meaning.Meanings.{Meaning}

-- a meaning, what the writer had taken before and has after, and what was returned
module _ (m : Meaning) (old new : Written) (answer : Option Answer) where
  -- all of the meaning's text is appended, and its fault is returned, or Ok if it has none
  pub record Finished : Type 0 where
    pub all : Appends old (text_of m.text) new
    pub reported : answer ≡ option_map fault m.fault

  -- a proper beginning of the text is appended, or none of it if the writer had refused before;
  -- `Fmt` is returned, at the place of the first character that was not appended. Of a writer that
  -- has a bound, this character goes over it
  pub record Refused : Type 0 where
    pub front : Placed
    pub c : ℕ
    pub place : ℕ
    pub back : Placed
    pub split : m.text ≡ front ++ ((c, place) ∷ back)
    pub appended : new.text ≡ old.text ++ text_of front
    pub flag : new.refused ≡ true
    pub none_after_refusal : old.refused ≡ true → text_of front ≡ []
    pub same_origin : new.origin ≡ old.origin
    pub over : GoesOver old.origin.bound old.refused
        (byte_count new.text + length (encode_utf8 c))
    pub reported : answer ≡ Some (fault (fmt place))

  -- memory ran out: exactly the characters before one of the memory points are appended
  pub record WantsMemory : Type 0 where
    pub front : Placed
    pub back : Placed
    pub split : m.text ≡ front ++ back
    pub point : Contains m.memory_points (length front)
    pub begun : Appends old (text_of front) new
    pub reported : answer ≡ Some no_memory

  -- finished, refused by the writer, or out of memory
  abbrev pub Outcome : Type 0
  Outcome = Finished ⊎ Refused ⊎ WantsMemory

-- a new text: the meaning's, if it has no fault; else its fault, or that memory ran out
abbrev pub Formats : {Z : Type 0} → Meaning → Result (String Z) Error → Type 0
Formats m result = MatchResult result
    (λ s. (m.fault ≡ None) × (chars (string_bytes s) ≡ text_of m.text))
    (λ e. (answer_of e ≡ no_memory) ⊎ (Some (answer_of e) ≡ option_map fault m.fault))

-- what writing a meaning without a fault may return: Ok, or the fault of a writer that has refused,
-- or that there was no memory
abbrev pub OnlyRefused : (new : Written) → Option Answer → Type 0
OnlyRefused new None = ⊤
OnlyRefused new (Some (fault (fmt place))) = new.refused ≡ true
OnlyRefused new (Some no_memory) = ⊤
OnlyRefused new _ = ⊥
