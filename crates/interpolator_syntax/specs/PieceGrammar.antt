-- Pieces that begin with a brace, by the relation of arguments; and the pieces of a token.
use Rattle.std.specs.Prelude.{◌≡◌, ℕ, ◌+◌, List, [], ◌∷◌, ◌++◌}
use Rattle.std.specs.Char.{len_utf8}
use Rattle.interpolator_syntax.specs.Classes.{open_brace, close_brace}
use Rattle.interpolator_syntax.specs.ArgumentGrammar.{IsArgument, IsNoArgument}
use Rattle.interpolator_syntax.specs.Grammar.{from_place, NotFirst}
use Rattle.interpolator_syntax.specs.Pieces.{Piece, literal, doubled, lone_close, argument_from}
use Rattle.interpolator_syntax.specs.Tokens.{Token, literals, argument, doubled as doubled_token}
use Rattle.interpolator_syntax.specs.Tokens.{lone_close as lone_token}
use Rattle.interpolator_syntax.specs.{Places.At, Arguments.Argument, Faults.Fault}

-- from a brace at p to its closing brace: an argument follows the former, and ends in front of the
-- latter
pub record ClosedStands (p start : ℕ) (x : Argument) (end : ℕ) (text rest : List ℕ) : Type 0 where
  pub inner : List ℕ
  pub in_braces : text ≡ open_brace ∷ (inner ++ (close_brace ∷ []))
  pub begins : start ≡ p + 1
  pub stands :
      IsArgument (from_place start (inner ++ (close_brace ∷ rest))) x
      (from_place end (close_brace ∷ rest))

-- from a brace at p all the rest: an argument follows the brace, and where it ends there is no
-- closing brace
pub record UnclosedStands (p start : ℕ) (x : Argument) (end : ℕ) (text rest : List ℕ) : Type 0 where
  pub inner : List ℕ
  pub left : List ℕ
  pub takes_all : rest ≡ []
  pub in_front : text ≡ open_brace ∷ inner
  pub begins : start ≡ p + 1
  pub stands : IsArgument (from_place start inner) x (from_place end left)
  pub not_closed : NotFirst close_brace left

-- from a brace at p all the rest: no argument follows the brace, for this reason
pub record BrokenStands (p : ℕ) (f : Fault) (text rest : List ℕ) : Type 0 where
  pub inner : List ℕ
  pub takes_all : rest ≡ []
  pub in_front : text ≡ open_brace ∷ inner
  pub refused : IsNoArgument (from_place (p + 1) inner) f

-- ---- the pieces of a token

-- the characters from p on, each as a literal
abbrev pub literal_pieces : (p : ℕ) → List ℕ → List Piece
literal_pieces p [] = []
literal_pieces p (c ∷ cs) =
    record { place = p; text = c ∷ []; kind = literal c } ∷ literal_pieces (p + len_utf8 c) cs

-- the pieces of a token at p, if the text at b comes after it
abbrev pub token_pieces : (p : ℕ) → Token → (b : At) → List Piece
token_pieces p (literals cs) b = literal_pieces p cs
token_pieces p (doubled_token c) b =
    record { place = p; text = c ∷ c ∷ []; kind = doubled c } ∷ []
token_pieces p lone_token b =
    record { place = p; text = close_brace ∷ []; kind = lone_close } ∷ []
token_pieces p argument b = (argument_from p b).piece ∷ []
