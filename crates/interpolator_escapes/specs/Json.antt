-- Reading JSON: strings, and what is between them.
use Rattle.std.specs.Prelude.{ℕ, ◌+◌, ◌-◌, ◌*◌, List, [], ◌∷◌, ◌==◌, if◌then◌else◌, Bool, false}
use Rattle.std.specs.Prelude.{nat_lt, ◌&&◌, not}
use Rattle.std.specs.Char.{digit_value}
use Rattle.interpolator_render.specs.{declared.view.Spec.Spec, declared.view.Trait.Trait}
use Rattle.interpolator_escapes.specs.Plain.{is_plain, is_debug, is_bare}
use Rattle.interpolator_escapes.specs.Readers.{Token, content, structure}

-- where a reader is: between strings, in one, after a backslash in one, or in a code, with so many
-- digits to come after a number
pub data JsonState : Type 0 where
  between : JsonState
  in_string : JsonState
  after_slash : JsonState
  in_code : ℕ → ℕ → JsonState

-- what a character after a backslash stands for
abbrev pub json_letter : ℕ → ℕ
json_letter c =
    if c == 110 then 10 else
    (if c == 114 then 13 else
    (if c == 116 then 9 else (if c == 98 then 8 else (if c == 102 then 12 else c))))

-- one more digit of a code
abbrev pub code_step : ℕ → ℕ → JsonState × List Token
code_step left n = if left == 1 then (in_string, content n ∷ []) else (in_code (left - 1) n, [])

-- a character, read. The structure is what is around values, as `{` and `,`: between strings, the
-- characters of numbers and words are content, and so are the quotes of a string. A control, which no
-- string of JSON may have, is structure
abbrev pub json_step : JsonState → ℕ → JsonState × List Token
json_step between c =
    if c == 34 then (in_string, content c ∷ []) else
    (between, if is_plain c then content c ∷ [] else structure c ∷ [])
json_step in_string c =
    if c == 34 then (between, content c ∷ []) else
    (if c == 92 then (after_slash, []) else
    (in_string, if nat_lt c 32 then structure c ∷ [] else content c ∷ []))
json_step after_slash c =
    if c == 117 then (in_code 4 0, []) else (in_string, content (json_letter c) ∷ [])
json_step (in_code left n) c = code_step left (n * 16 + digit_value c)

-- a value may stand in a string, or, under debug, between strings, if a number is one of JSON so
abbrev pub is_json_place : JsonState → Trait → Spec → Bool
is_json_place between t spec = is_debug t && is_bare spec
is_json_place in_string t spec = not (is_debug t)
is_json_place _ t spec = false
