-- How a text ends, as the scan finds it.
use Rattle.std.proofs.Common.{◌≡◌, ℕ, ◌+◌, ◌<◌, false, List, [], ◌∷◌, length, arith, Option, Some}
use Rattle.std.proofs.Common.{None, eqb-true}
use Rattle.std.specs.Char.{len_utf8}
use Rattle.interpolator_syntax.specs.Pieces.{Step, argument_from, past, pieces}
use Rattle.interpolator_syntax.specs.Tokens.{Token, first_token, past_token}
use Rattle.interpolator_syntax.specs.{Places.At, Places.after, Classes.in_class, Classes.is_brace}
use Rattle.interpolator_syntax.specs.declared.class.Class.TheVariants.{Literal}
use Rattle.interpolator.specs.Seams.{piece_ending, last_ending, token_ending}
use Rattle.interpolator.specs.declared.{parts.Ending.Ending, parts.Ending.TheVariants.Settled}
use Rattle.interpolator_syntax.proofs.LocalityLemmas.{stands}
use Rattle.interpolator_syntax.proofs.PieceLemmas.{pieces_none, pieces_next}

-- ---- the tokens of the scan, in pieces

-- the text at a ends as its rest does after a piece that ends so, and the rest has fewer pieces
pub record Scanned (a : At) (e : Ending) (rest : At) : Type 0 where
  pub ends : (d : Ending) → last_ending d (pieces a) ≡ last_ending e (pieces rest)
  pub fewer : length (pieces rest) < length (pieces a)

-- the argument after a brace ends the same wherever the brace is
abbrev AnyPlace : Step → Step → Type 0
AnyPlace s t = (piece_ending s.piece ≡ piece_ending t.piece) × (s.rest ≡ t.rest)

any_place : (q p : ℕ) (b : At) → AnyPlace (argument_from q b) (argument_from p b)
unfolding argument_from
any_place q p b = grind arith

-- the first token of the scan, by what follows it
abbrev ScansTo : At → Option (Token × At) → Type 0
ScansTo a None = pieces a ≡ []
ScansTo a (Some x) = Scanned a (token_ending x.0 x.1) (past_token x.0 x.1)

-- a run of literals
scans_run : (p c : ℕ) (cs : List ℕ) → is_brace c ≡ false
    → Scanned (stands p (c ∷ cs)) Settled (after (in_class Literal) (stands p (c ∷ cs)))
scans_run p c [] h = grind (arith, pieces_next p c [])
scans_run p c (d ∷ ds) h =
    grind (arith, pieces_next p c (d ∷ ds), scans_run (p + len_utf8 c) d ds)

scans_at : (p : ℕ) (cs : List ℕ) → ScansTo (stands p cs) (first_token (stands p cs))
unfolding first_token
scans_at p [] = pieces_none p
scans_at p (c ∷ cs) =
    let b = past p c cs in
    grind (arith, eqb-true, pieces_next p c cs, any_place b.place p, scans_run p c cs)

pub scanned : (a : At) (x : Token × At) → first_token a ≡ Some x
    → Scanned a (token_ending x.0 x.1) (past_token x.0 x.1)
scanned a x h = grind (arith, scans_at a.place a.text)

pub scanned_end : (a : At) → first_token a ≡ None → pieces a ≡ []
scanned_end a h = grind (arith, scans_at a.place a.text)
