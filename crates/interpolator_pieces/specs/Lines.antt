-- What a format means with a newline after it.
use Rattle.std.specs.Prelude.{ℕ, [], ◌∷◌}
use Rattle.interpolator_eval.specs.Meaning.Meanings.{Meaning, text_alone, chain}

-- `\n`
abbrev pub newline : ℕ
newline = 10

-- what a newline means: itself, at place 0
abbrev pub newline_means : Meaning
newline_means = text_alone ((newline, 0) ∷ [])

-- a meaning with a newline after its text, if it has no fault
abbrev pub line_means : Meaning → Meaning
line_means m = chain m newline_means
