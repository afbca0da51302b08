-- At most one list of pieces is the text, each piece of the first kind that its place allows.
use Rattle.std.proofs.Common.{◌≡◌, ℕ, ◌+◌, IsTrue, List, [], ◌∷◌, ◌++◌, arith, refl, sym, Result}
use Rattle.std.proofs.Common.{Ok, Err, append_assoc, append-nil, flat_map}
use Rattle.std.proofs.{lemmas.Grind.common_steps, lemmas.List.append_cancel_right}
use Rattle.interpolator_syntax.specs.Classes.{open_brace, close_brace, is_brace}
use Rattle.interpolator_syntax.specs.Pieces.{PieceKind, Piece, literal, doubled, lone_close, closed}
use Rattle.interpolator_syntax.specs.Pieces.{unclosed, broken}
use Rattle.interpolator_syntax.specs.Grammar.{from_place, NotFirst, Fits, Stands, StandsFirst}
use Rattle.interpolator_syntax.specs.Grammar.{IsPieces}
use Rattle.interpolator_syntax.specs.{Places.At, Places.size, Arguments.Argument}
use Rattle.interpolator_syntax.specs.{Arguments.argument_at}
use Rattle.interpolator_syntax.specs.Faults.{Fault}

-- what a piece of this kind in front of this rest says about a text that begins with c at p
abbrev pub Shows : (p c : ℕ) (cs : List ℕ) → PieceKind → (rest : List ℕ) → Type 0
Shows p c cs (doubled brace) rest = IsTrue (is_brace c) × (brace ≡ c) × (cs ≡ c ∷ rest)
Shows p c cs (closed start x end) rest =
    (c ≡ open_brace) × (start ≡ p + 1)
    × (argument_at (from_place (p + 1) cs) ≡ Ok (x, from_place end (close_brace ∷ rest)))
Shows p c cs (unclosed start x end) rest =
    (left : List ℕ) × (c ≡ open_brace) × (start ≡ p + 1)
    × (argument_at (from_place (p + 1) cs) ≡ Ok (x, from_place end left))
    × (rest ≡ []) × NotFirst close_brace left
Shows p c cs (broken f) rest =
    (c ≡ open_brace) × (argument_at (from_place (p + 1) cs) ≡ Err f) × (rest ≡ [])
Shows p c cs lone_close rest = (c ≡ close_brace) × (rest ≡ cs)
Shows p c cs (literal d) rest = (d ≡ c) × (rest ≡ cs)

pub stands_shown :
    (p c : ℕ) (cs : List ℕ) (x : Piece) (rest : List ℕ) → Stands (from_place p (c ∷ cs)) x rest
    → Shows p c cs x.kind rest
stands_shown p c cs x rest s = grind (arith, append_assoc, append-nil)

-- no piece is empty
not_empty : (p : ℕ) (k : PieceKind) (text rest : List ℕ) → [] ≡ text ++ rest → Fits p k text rest
    → ⊥
not_empty p k text rest e h = grind (arith, e, h)

-- two arguments read from the same text
pub same_ok :
    {x y : Argument} {q r : At} → ◌≡◌ {A = Result (Argument × At) Fault} (Ok (x, q)) (Ok (y, r))
    → (x ≡ y) × (q ≡ r)
same_ok e = grind (arith, e)

-- two pieces that come first in a text are the same
first_same :
    (p : ℕ) (cs : List ℕ) (x y : Piece) (r s : List ℕ) → StandsFirst (from_place p cs) x r
    → StandsFirst (from_place p cs) y s → (x ≡ y) × (r ≡ s)
first_same p cs x y r s h k =
    grind (arith, common_steps, stands_shown, same_ok, append_cancel_right)

pieces_moved :
    {x y : Piece} {r s : List ℕ} (p : ℕ) (xs : List Piece) → x ≡ y → r ≡ s
    → IsPieces (from_place (p + size y.text) s) xs → IsPieces (from_place (p + size x.text) r) xs
pieces_moved p xs e d h = rw (e, d) h

-- at most one list consists of the pieces of a text
pub one_list : (xs ys : List Piece) (a : At) → IsPieces a xs → IsPieces a ys → xs ≡ ys
one_list [] [] a h k = refl
one_list [] (y ∷ ys) a h k = grind (arith, not_empty a.place y.kind y.text k.0)
one_list (x ∷ xs) [] a h k = grind (arith, not_empty a.place x.kind x.text h.0)
one_list (x ∷ xs) (y ∷ ys) a h k =
    let same = first_same a.place a.text x y h.0 k.0 h.1 k.1 in
    let after = from_place (a.place + size x.text) h.0 in
    let rest : xs ≡ ys = one_list xs ys after h.2 (pieces_moved a.place ys same.0 same.1 k.2) in cc

-- the texts of pieces, joined
pub pieces_joined : (xs : List Piece) (a : At) → IsPieces a xs → flat_map (λ x. x.text) xs ≡ a.text
pieces_joined [] a h = sym h
pieces_joined (x ∷ xs) a h =
    rw (pieces_joined xs (from_place (a.place + size x.text) h.0) h.2) (sym h.1.stands.split)
