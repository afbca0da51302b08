-- The pieces of the first token, and then those of the text after it.
use Rattle.std.proofs.Common.{◌≡◌, ℕ, ◌+◌, Bool, List, [], ◌∷◌, ◌++◌, arith, refl, subst, Option}
use Rattle.std.proofs.Common.{Some, None, eqb-true}
use Rattle.std.specs.Char.{len_utf8}
use Rattle.interpolator_syntax.specs.Places.{At, size}
use Rattle.interpolator_syntax.specs.Classes.{front_of, after_of, in_class, is_brace, open_brace}
use Rattle.interpolator_syntax.specs.Classes.{close_brace}
use Rattle.interpolator_syntax.specs.PieceGrammar.{literal_pieces, token_pieces}
use Rattle.interpolator_syntax.specs.Pieces.{Piece, Step, argument_from, open_step, close_step}
use Rattle.interpolator_syntax.specs.Pieces.{past, pieces}
use Rattle.interpolator_syntax.specs.Tokens.{Token, open_scan, close_scan, first_token, past_token}
use Rattle.interpolator_syntax.specs.declared.class.Class.TheVariants.{Literal}
use Rattle.interpolator_syntax.proofs.PieceLemmas.{literal_step, pieces_none, pieces_next}
use Rattle.interpolator_syntax.proofs.{LocalityLemmas.stands, LongestLemmas.at_same}

-- the first piece of a text, and those of the text after it
abbrev of_step : Step → List Piece
of_step s = s.piece ∷ pieces s.rest

-- the pieces of a token at p, and then those of the text after it
abbrev of_scan : ℕ → Option (Token × At) → List Piece
of_scan p None = []
of_scan p (Some x) = token_pieces p x.0 x.1 ++ pieces (past_token x.0 x.1)

-- the text after an argument is the same wherever its brace is
any_rest : (q p : ℕ) (b : At) → (argument_from q b).rest ≡ (argument_from p b).rest
unfolding argument_from
any_rest q p b = grind arith

scans_open : (p : ℕ) (cs : List ℕ) (o : Option At)
    → of_step (open_step p (past p open_brace cs) o)
    ≡ of_scan p (Some (open_scan (past p open_brace cs) o))
scans_open p cs o = grind (arith, any_rest p)

scans_close : (p : ℕ) (cs : List ℕ) (o : Option At)
    → of_step (close_step p (past p close_brace cs) o)
    ≡ of_scan p (Some (close_scan (past p close_brace cs) o))
scans_close p cs o = grind arith

-- ---- a run of literals

abbrev IsRun : ℕ → List ℕ → Type 0
IsRun p cs =
    pieces (stands p cs)
    ≡ literal_pieces p (front_of (in_class Literal) cs)
    ++ pieces (stands (p + size (front_of (in_class Literal) cs)) (after_of (in_class Literal) cs))

at_end : (p : ℕ) (cs : List ℕ) → pieces (stands p cs) ≡ pieces (stands (p + 0) cs)
at_end p cs = grind arith

run_of : (p c : ℕ) (cs : List ℕ) (t : Bool) → is_brace c ≡ t → IsRun (p + len_utf8 c) cs
    → IsRun p (c ∷ cs)
run_of p c cs t h k = grind (arith, literal_step, at_end, pieces_next, at_same)

run_is : (p : ℕ) (cs : List ℕ) → IsRun p cs
run_is p [] = at_end p []
run_is p (c ∷ cs) = run_of p c cs (is_brace c) refl (run_is (p + len_utf8 c) cs)

-- ---- tokens

abbrev Hands : At → Option (Token × At) → Type 0
Hands a o = pieces a ≡ of_scan a.place o

hands_at : (p : ℕ) (cs : List ℕ) → Hands (stands p cs) (first_token (stands p cs))
unfolding first_token
hands_at p cs = grind (arith, pieces_none, eqb-true, pieces_next, scans_open, scans_close, run_is)

pub hands_on : (a : At) (x : Token) (b : At) → first_token a ≡ Some (x, b)
    → pieces a ≡ token_pieces a.place x b ++ pieces (past_token x b)
hands_on a x b h = subst (Hands a) h (hands_at a.place a.text)

pub hands_nothing : (a : At) → first_token a ≡ None → pieces a ≡ []
hands_nothing a h = subst (Hands a) h (hands_at a.place a.text)
