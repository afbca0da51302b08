-- The text after a token is shorter than the text.
use Rattle.std.proofs.Common.{◌≡◌, ℕ, ◌<◌, List, length, arith, Some}
use Rattle.interpolator_syntax.specs.{Places.At, Classes.in_class, Tokens.Token, Tokens.first_token}
use Rattle.interpolator_syntax.specs.{Tokens.past_token, declared.class.Class.TheVariants.Literal}
use Rattle.interpolator_syntax.proofs.LocalityLemmas.{stands}
use Rattle.interpolator_syntax.proofs.PieceLemmas.{after_shorter, argument_from_within}

-- the text after a token has fewer characters
shorter_at : (p : ℕ) (cs : List ℕ) (x : Token × At) → first_token (stands p cs) ≡ Some x
    → length x.1.text < length cs
unfolding first_token
shorter_at p cs x h = grind (arith, h, after_shorter (in_class Literal))

pub token_shorter : (a : At) (x : Token × At) → first_token a ≡ Some x
    → length x.1.text < length a.text
token_shorter a x h = shorter_at a.place a.text x h

pub scan_shorter : (a rest : At) (x : Token × At) → first_token a ≡ Some x
    → rest ≡ past_token x.0 x.1 → length rest.text < length a.text
scan_shorter a rest x h r = grind (arith, token_shorter, argument_from_within)
