-- The pieces of a format text.
use Rattle.std.specs.Prelude.{ℕ, zero, suc, ◌+◌, ◌-◌, ◌==◌, if◌then◌else◌, List, [], ◌∷◌, length}
use Rattle.std.specs.Prelude.{take, Option, Some, None, Result, Ok, Err}
use Rattle.std.specs.Char.{len_utf8}
use Rattle.interpolator_syntax.specs.Places.{At, strip, all_after}
use Rattle.interpolator_syntax.specs.{Classes.open_brace, Classes.close_brace, Arguments.Argument}
use Rattle.interpolator_syntax.specs.{Arguments.argument_at, Faults.Fault}

-- the kind of a piece; `start` is the place after the opening brace, and `end` that after the spec
pub data PieceKind : Type 0 where
  literal : (c : ℕ) → PieceKind
  doubled : (brace : ℕ) → PieceKind
  lone_close : PieceKind
  closed : (start : ℕ) (argument : Argument) (end : ℕ) → PieceKind
  unclosed : (start : ℕ) (argument : Argument) (end : ℕ) → PieceKind
  broken : (fault : Fault) → PieceKind

-- a piece: its place, its text, and what it is
pub record Piece : Type 0 where
  pub place : ℕ
  pub text : List ℕ
  pub kind : PieceKind

-- a piece, and the text after it
pub record Step : Type 0 where
  pub piece : Piece
  pub rest : At

-- a piece by its parts, and the text after it
abbrev pub step : ℕ → List ℕ → PieceKind → At → Step
step p text kind rest =
    record { piece = record { place = p; text = text; kind = kind }; rest = rest }

-- the piece of a brace at p and of all the text after it, which is at b
abbrev pub takes_all : ℕ → At → PieceKind → Step
takes_all p b kind = step p (open_brace ∷ b.text) kind (all_after b)

-- the text from a brace up to the rest, where b is the text after the brace
abbrev pub text_up_to : At → At → List ℕ
text_up_to b rest = take (length (open_brace ∷ b.text) - length rest.text) (open_brace ∷ b.text)

-- the piece of an argument whose spec ends at `end`, by the text after a closing brace there
abbrev pub argument_step : ℕ → At → Argument → At → Option At → Step
argument_step p b x end None = takes_all p b (unclosed b.place x end.place)
argument_step p b x end (Some rest) = step p (text_up_to b rest) (closed b.place x end.place) rest

-- the piece of a brace at p, by the argument after it, or by why that is broken
abbrev pub argument_or_broken : ℕ → At → Result (Argument × At) Fault → Step
argument_or_broken p b (Ok x) = argument_step p b x.0 x.1 (strip close_brace x.1)
argument_or_broken p b (Err f) = takes_all p b (broken f)

-- the piece of a brace at p that begins an argument
unfoldable pub argument_from : ℕ → At → Step
argument_from p b = argument_or_broken p b (argument_at b)

-- an opening brace at p: doubled, if a second follows it
abbrev pub open_step : ℕ → At → Option At → Step
open_step p b (Some rest) = step p (open_brace ∷ open_brace ∷ []) (doubled open_brace) rest
open_step p b None = argument_from p b

-- a closing brace at p: doubled, if a second follows it
abbrev pub close_step : ℕ → At → Option At → Step
close_step p b (Some rest) = step p (close_brace ∷ close_brace ∷ []) (doubled close_brace) rest
close_step p b None = step p (close_brace ∷ []) lone_close b

-- the first piece of a text that begins with c at p and goes on at b
abbrev pub piece_from : ℕ → ℕ → At → Step
piece_from p c b =
    if c == open_brace then open_step p b (strip open_brace b)
    else (if c == close_brace then close_step p b (strip close_brace b)
    else step p (c ∷ []) (literal c) b)

-- the text after the character c at p
abbrev pub past : ℕ → ℕ → List ℕ → At
past p c cs = record { place = p + len_utf8 c; text = cs }

-- the pieces of a text of at most `most` characters
abbrev pub pieces_within : (most : ℕ) → ℕ → List ℕ → List Piece
pieces_within most p [] = []
pieces_within zero p (c ∷ cs) = []
pieces_within (suc most) p (c ∷ cs) =
    let s = piece_from p c (past p c cs) in s.piece ∷ pieces_within most s.rest.place s.rest.text

-- the pieces of a text
unfoldable pub pieces : At → List Piece
pieces a = pieces_within (length a.text) a.place a.text
