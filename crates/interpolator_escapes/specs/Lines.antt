-- Reading a line in which controls and backslashes are escaped.
use Rattle.std.specs.Prelude.{ℕ, ◌+◌, ◌-◌, ◌*◌, List, [], ◌∷◌, ◌==◌, if◌then◌else◌, Bool, true}
use Rattle.std.specs.Prelude.{false}
use Rattle.std.specs.Char.{digit_value}
use Rattle.interpolator_render.specs.{declared.view.Spec.Spec, declared.view.Trait.Trait}
use Rattle.interpolator_escapes.specs.Escapes.{is_control}
use Rattle.interpolator_escapes.specs.Readers.{Token, content, structure}

-- where a reader is: between escapes, after a backslash, or in a code, with so many digits to come
-- after a number
pub data LineState : Type 0 where
  in_line : LineState
  after_slash : LineState
  in_code : ℕ → ℕ → LineState

-- what a character after a backslash stands for
abbrev pub line_letter : ℕ → ℕ
line_letter c = if c == 110 then 10 else (if c == 114 then 13 else (if c == 116 then 9 else c))

-- a character after a backslash: `x` and two digits, or `u` and four, are a code
abbrev pub slash_step : ℕ → LineState × List Token
slash_step c =
    if c == 120 then (in_code 2 0, []) else
    (if c == 117 then (in_code 4 0, []) else (in_line, content (line_letter c) ∷ []))

-- one more digit of a code
abbrev pub code_step : ℕ → ℕ → LineState × List Token
code_step left n = if left == 1 then (in_line, content n ∷ []) else (in_code (left - 1) n, [])

-- a character that is no control
abbrev pub line_character : LineState → ℕ → LineState × List Token
line_character in_line c = if c == 92 then (after_slash, []) else (in_line, content c ∷ [])
line_character after_slash c = slash_step c
line_character (in_code left n) c = code_step left (n * 16 + digit_value c)

-- a control is structure, wherever it stands
abbrev pub line_step : LineState → ℕ → LineState × List Token
line_step s c = if is_control c then (in_line, structure c ∷ []) else line_character s c

-- a value may stand anywhere but in an escape of the text around it
abbrev pub is_between_escapes : LineState → Bool
is_between_escapes in_line = true
is_between_escapes _ = false

abbrev pub is_line_place : LineState → Trait → Spec → Bool
is_line_place s t spec = is_between_escapes s

-- ---- controls alone, wherever they stand

-- a reader that tells controls from other characters, and knows no escapes
abbrev pub control_step : Unit {0} → ℕ → Unit {0} × List Token
control_step s c = (s, if is_control c then structure c ∷ [] else content c ∷ [])

-- a value may stand anywhere
abbrev pub everywhere : Unit {0} → Trait → Spec → Bool
everywhere s t spec = true
