-- The pieces of a text as a relation: each piece is of the first kind that its place allows.
use Rattle.std.specs.Prelude.{◌≡◌, ◌≢◌, ℕ, ◌+◌, ◌≤◌, Bool, IsTrue, IsFalse, All, List, [], ◌∷◌}
use Rattle.std.specs.Prelude.{◌++◌, Ok, Err}
use Rattle.interpolator_syntax.specs.Classes.{open_brace, close_brace, is_brace}
use Rattle.interpolator_syntax.specs.Pieces.{PieceKind, Piece, literal, doubled, lone_close, closed}
use Rattle.interpolator_syntax.specs.Pieces.{unclosed, broken}
use Rattle.interpolator_syntax.specs.{Places.At, Places.size, Arguments.Argument}
use Rattle.interpolator_syntax.specs.{Arguments.argument_at}
use Rattle.interpolator_syntax.specs.Faults.{Fault}

-- how early a kind is tried, the earliest first
abbrev pub rank : PieceKind → ℕ
rank (doubled brace) = 0
rank (closed start x end) = 1
rank (unclosed start x end) = 2
rank (broken f) = 2
rank lone_close = 3
rank (literal c) = 4

-- the characters of a text from a place on
abbrev pub from_place : ℕ → List ℕ → At
from_place p cs = record { place = p; text = cs }

-- the text does not begin with the character c
abbrev pub NotFirst : ℕ → List ℕ → Type 0
NotFirst c text = (more : List ℕ) → text ≢ c ∷ more

-- from a brace at p to its closing brace: the argument after the former ends in front of the latter
pub record IsClosed (p start : ℕ) (x : Argument) (end : ℕ) (text rest : List ℕ) : Type 0 where
  pub inner : List ℕ
  pub in_braces : text ≡ open_brace ∷ (inner ++ (close_brace ∷ []))
  pub begins : start ≡ p + 1
  pub reads :
      argument_at (from_place start (inner ++ (close_brace ∷ rest)))
      ≡ Ok (x, from_place end (close_brace ∷ rest))

-- from a brace at p all the rest: no closing brace is where the argument after the brace ends
pub record IsUnclosed (p start : ℕ) (x : Argument) (end : ℕ) (text rest : List ℕ) : Type 0 where
  pub inner : List ℕ
  pub left : List ℕ
  pub takes_all : rest ≡ []
  pub in_front : text ≡ open_brace ∷ inner
  pub begins : start ≡ p + 1
  pub reads : argument_at (from_place start inner) ≡ Ok (x, from_place end left)
  pub not_closed : NotFirst close_brace left

-- from a brace at p all the rest: no argument follows the brace, for this reason
pub record IsBroken (p : ℕ) (f : Fault) (text rest : List ℕ) : Type 0 where
  pub inner : List ℕ
  pub takes_all : rest ≡ []
  pub in_front : text ≡ open_brace ∷ inner
  pub reads : argument_at (from_place (p + 1) inner) ≡ Err f

-- a piece of this kind and with this text may be at p, in front of this rest
abbrev pub Fits : (p : ℕ) → PieceKind → (text rest : List ℕ) → Type 0
Fits p (doubled brace) text rest = IsTrue (is_brace brace) × (text ≡ brace ∷ brace ∷ [])
Fits p (closed start x end) text rest = IsClosed p start x end text rest
Fits p (unclosed start x end) text rest = IsUnclosed p start x end text rest
Fits p (broken f) text rest = IsBroken p f text rest
Fits p lone_close text rest = text ≡ close_brace ∷ []
Fits p (literal c) text rest = text ≡ c ∷ []

-- the piece may come first in the text, in front of this rest
pub record Stands (a : At) (x : Piece) (rest : List ℕ) : Type 0 where
  pub place : x.place ≡ a.place
  pub split : a.text ≡ x.text ++ rest
  pub fits : Fits a.place x.kind x.text rest

-- the piece may come first, and no piece that may is of an earlier kind
pub record StandsFirst (a : At) (x : Piece) (rest : List ℕ) : Type 0 where
  pub stands : Stands a x rest
  pub first : (y : Piece) (after : List ℕ) → Stands a y after → rank x.kind ≤ rank y.kind

-- the text is these pieces, one after the other, each of the first kind that its place allows
abbrev pub IsPieces : At → List Piece → Type 0
IsPieces a [] = a.text ≡ []
IsPieces a (x ∷ xs) =
    (rest : List ℕ) × StandsFirst a x rest
    × IsPieces (from_place (a.place + size x.text) rest) xs

-- ---- fronts of a text

-- `front` is the longest front of the text whose characters pass, and `rest` follows it
pub record IsLongest (passes : ℕ → Bool) (text front rest : List ℕ) : Type 0 where
  pub split : text ≡ front ++ rest
  pub pass : All (λ c. IsTrue (passes c)) front
  pub stops : (c : ℕ) (more : List ℕ) → rest ≡ c ∷ more → IsFalse (passes c)
