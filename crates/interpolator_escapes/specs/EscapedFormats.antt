-- Formats whose values are escaped.
use Rattle.std.specs.Prelude.{ℕ, List}
use Rattle.interpolator_escapes.specs.declared.escape.Escape.{Escape}

-- a format, and how its values are escaped
pub record EscapedFormat : Type 0 where
  pub text : List ℕ
  pub escape : Escape

-- a format prepared for rows of these names, and how its values are escaped
pub record EscapedRows : Type 0 where
  pub text : List ℕ
  pub names : List (List ℕ)
  pub escape : Escape
