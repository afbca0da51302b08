-- The tokens of the scan: neighbouring literals as one, a doubled brace, a closing brace by itself,
-- or the beginning of an argument.
use Rattle.std.specs.Prelude.{ℕ, ◌+◌, ◌^◌, ◌<◌, ⊤, List, [], ◌∷◌, length, Option, Some, None}
use Rattle.std.specs.Str.{chars}
use Rattle.interpolator_syntax.specs.Places.{At, at, strip, after}
use Rattle.interpolator_syntax.specs.Classes.{front_of, in_class, open_brace, close_brace}
use Rattle.interpolator_syntax.specs.Pieces.{argument_from}
use Rattle.interpolator_syntax.specs.declared.class.Class.TheVariants.{Literal}
use Rattle.interpolator_syntax.specs.declared.cursor.Cursor.{Cursor}
use Rattle.interpolator_syntax.specs.declared.token.Token as code_token
use Rattle.interpolator_syntax.specs.declared.token.Token.TheVariants.{Literals, Doubled}
use Rattle.interpolator_syntax.specs.declared.token.Token.TheVariants.{LoneClose, Argument}

-- a run of literals; a doubled brace, which is written as one; a closing brace by itself, which is
-- written; or an opening brace, after which an argument begins
pub data Token : Type 0 where
  literals : List ℕ → Token
  doubled : (brace : ℕ) → Token
  lone_close : Token
  argument : Token

-- after an opening brace, by the text after a second one: doubled, or an argument
abbrev pub open_scan : At → Option At → Token × At
open_scan b (Some rest) = (doubled open_brace, rest)
open_scan b None = (argument, b)

-- after a closing brace, by the text after a second one: doubled, or alone
abbrev pub close_scan : At → Option At → Token × At
close_scan b (Some rest) = (doubled close_brace, rest)
close_scan b None = (lone_close, b)

-- the first token of a text that begins with no brace: a run of literals, if there is one
abbrev pub literal_scan : At → List ℕ → Option (Token × At)
literal_scan a [] = None
literal_scan a (c ∷ cs) =
    Some (literals (front_of (in_class Literal) a.text), after (in_class Literal) a)

-- the first token of a text without an opening brace in front, by the text after a closing one
abbrev pub no_open_scan : At → Option At → Option (Token × At)
no_open_scan a (Some b) = Some (close_scan b (strip close_brace b))
no_open_scan a None = literal_scan a a.text

-- the first token of a text, by the text after an opening brace, if it begins with one
abbrev pub scan_by : At → Option At → Option (Token × At)
scan_by a (Some b) = Some (open_scan b (strip open_brace b))
scan_by a None = no_open_scan a (strip close_brace a)

-- the first token of a text at a place, and the text after it
unfoldable pub first_token : At → Option (Token × At)
first_token a = scan_by a (strip open_brace a)

-- the text after a token and, if that begins an argument, after the argument
abbrev pub past_token : Token → At → At
past_token (literals cs) b = b
past_token (doubled c) b = b
past_token lone_close b = b
past_token argument b = (argument_from b.place b).rest

-- the token that the code's token stands for
abbrev pub token_of : code_token.Token → Token
token_of (Literals text) = literals (chars text.now)
token_of (Doubled c) = doubled c
token_of LoneClose = lone_close
token_of Argument = argument

-- the token that the code's token stands for, and the text after it
abbrev pub token_read : code_token.Token × Cursor → Token × At
token_read x = (token_of x.0, at x.1)

-- a run of literals at p ends at a place that fits a `usize`
abbrev pub RunFits : ℕ → code_token.Token → Type 0
RunFits p (Literals text) = p + length text.now < 2 ^ 64
RunFits p _ = ⊤
