-- An ASCII character at the beginning of a text, by its byte.
use Rattle.std.proofs.Common.{◌≡◌, ℕ, ◌+◌, ◌<◌, List, [], ◌∷◌, length, get_or, arith, Some, None}
use Rattle.std.proofs.Common.{chars, IsUtf8, IsCharBoundary, encode_utf8_all, slice_get, eqb-true}
use Rattle.std.proofs.lemmas.Str.{chars_past_char, chars-nil, encodes-chars, encode_ascii}
use Rattle.std.proofs.lemmas.Str.{len_utf8_ascii, IsCharBoundary-after_ascii}
use Rattle.interpolator_syntax.specs.Places.{At, strip, strip_of, after}
use Rattle.interpolator_syntax.specs.Classes.{front_of, in_class, open_brace, close_brace}
use Rattle.interpolator_syntax.specs.Tokens.{literals, first_token}
use Rattle.interpolator_syntax.specs.{declared.class.Class.TheVariants.Literal, Grammar.NotFirst}

pub strip_here : (wanted p : ℕ) (bs rest : List ℕ) → wanted < 128 → IsUtf8 bs → bs ≡ wanted ∷ rest
    → strip_of wanted p (chars bs) ≡ Some (record { place = p + 1; text = chars rest })
strip_here wanted p bs rest low u e =
    grind (arith, chars_past_char bs rest wanted u, encode_ascii wanted low, len_utf8_ascii)

strip_other_at : (wanted p : ℕ) (bs cs : List ℕ) → wanted < 128 → NotFirst wanted bs
    → encode_utf8_all cs ≡ bs → strip_of wanted p cs ≡ None
strip_other_at wanted p bs cs low h e = grind (arith, encode_ascii, eqb-true)

pub strip_other : (wanted p : ℕ) (bs : List ℕ) → wanted < 128 → IsUtf8 bs → NotFirst wanted bs
    → strip_of wanted p (chars bs) ≡ None
strip_other wanted p bs low u h = strip_other_at wanted p bs (chars bs) low h (encodes-chars bs u)

pub boundary_after : (bs : List ℕ) (b : ℕ) → slice_get bs 0 ≡ Some b → b < 128 → IsUtf8 bs
    → IsCharBoundary bs 1
boundary_after [] b e low u = absurd (cc)
boundary_after (x ∷ xs) b e low u =
    let same : x ≡ b = cc in IsCharBoundary-after_ascii (x ∷ xs) 0 u (omega arith) (omega arith)

-- a text that is not empty and begins with no brace begins with a run of literals
pub literals_scanned : (p : ℕ) (bs cs : List ℕ) (r : At) → 0 < length bs → IsUtf8 bs
    → None ≡ strip open_brace (record { place = p; text = chars bs })
    → None ≡ strip close_brace (record { place = p; text = chars bs })
    → cs ≡ front_of (in_class Literal) (chars bs)
    → r ≡ after (in_class Literal) (record { place = p; text = chars bs })
    → Some (literals cs, r) ≡ first_token (record { place = p; text = chars bs })
unfolding first_token
literals_scanned p bs cs r n u h k f b = grind (arith, encodes-chars bs u)

-- a text of one byte
pub one_char : (bs cs : List ℕ) → cs ≡ bs → length cs ≡ 1 → get_or cs 0 0 < 128 → IsUtf8 bs
    → chars bs ≡ get_or cs 0 0 ∷ []
one_char bs [] s n low u = absurd (omega arith)
one_char bs (b ∷ []) s n low u = grind (arith, chars_past_char bs [] b u, encode_ascii, chars-nil)
one_char bs (b ∷ d ∷ ds) s n low u = absurd (omega arith)
