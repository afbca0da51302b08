-- Reading a command of a POSIX shell: words, single quotes and backslashes.
use Rattle.std.specs.Prelude.{ℕ, List, [], ◌∷◌, ◌==◌, ◌||◌, if◌then◌else◌, Bool, true, false}
use Rattle.interpolator_render.specs.{declared.view.Spec.Spec, declared.view.Trait.Trait}
use Rattle.interpolator_escapes.specs.Readers.{Token, content, structure}

-- where a reader is: outside of quotes, after a backslash there, between single quotes, or from a
-- character on in whose sight a single quote may be no quote
pub data ShellState : Type 0 where
  outside : ShellState
  after_slash : ShellState
  single_quoted : ShellState
  elsewhere : ShellState

-- `"`, `#`, `$`, `(`, `<`, `[` or a back quote: double quotes, comments, expansions, arithmetic and
-- here-documents
abbrev pub begins_other : ℕ → Bool
begins_other c =
    (c == 34) || (c == 35) || (c == 36) || (c == 40) || (c == 60) || (c == 91) || (c == 96)

-- a character, read
abbrev pub shell_step : ShellState → ℕ → ShellState × List Token
shell_step outside c =
    if c == 39 then (single_quoted, []) else
    (if c == 92 then (after_slash, []) else
    (if begins_other c then (elsewhere, structure c ∷ []) else (outside, structure c ∷ [])))
shell_step after_slash c = (outside, if c == 10 then [] else content c ∷ [])
shell_step single_quoted c = if c == 39 then (outside, []) else (single_quoted, content c ∷ [])
shell_step elsewhere c = (elsewhere, structure c ∷ [])

-- a value may stand between single quotes
abbrev pub is_single_quoted : ShellState → Bool
is_single_quoted single_quoted = true
is_single_quoted _ = false

abbrev pub is_shell_place : ShellState → Trait → Spec → Bool
is_shell_place s t spec = is_single_quoted s
