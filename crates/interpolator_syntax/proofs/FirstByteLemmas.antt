-- What the first byte of a text says about its characters.
use Rattle.std.proofs.Common.{◌≡◌, ℕ, ◌≤◌, List, [], ◌∷◌, arith, refl, Option, Some, None, length}
use Rattle.std.proofs.Common.{Bool, eqb, MatchOption, MatchBool, slice_get, chars, IsUtf8}
use Rattle.std.proofs.Common.{encode_utf8_all}
use Rattle.std.proofs.lemmas.Str.{encodes-chars}
use Rattle.interpolator_syntax.specs.Classes.{front_of, after_of, in_class}
use Rattle.interpolator_syntax.specs.SpecReads.{FirstByte}
use Rattle.interpolator_syntax.specs.declared.class.Class.TheVariants.{WhiteSpace}
use Rattle.interpolator_syntax.proofs.ByteLemmas.{encode_head}
use Rattle.interpolator_syntax.proofs.CharacterLemmas.{no_text, chars_of_end}

first_byte_at : (cs bs : List ℕ) (b : ℕ) → encode_utf8_all cs ≡ bs → slice_get bs 0 ≡ Some b
    → FirstByte b cs
first_byte_at [] bs b e f = absurd (grind (arith, e, f))
first_byte_at (c ∷ cs) bs b e f = grind (arith, encode_head, encode_utf8_all)

pub first_byte : (bs : List ℕ) (b : ℕ) → IsUtf8 bs → slice_get bs 0 ≡ Some b
    → FirstByte b (chars bs)
first_byte bs b u f = first_byte_at (chars bs) bs b (encodes-chars bs u) f

no_first : (bs : List ℕ) → None ≡ slice_get bs 0 → bs ≡ []
no_first [] e = refl
no_first (b ∷ bs) e = absurd (cc)

pub byte_reported : (bs : List ℕ) (o : Option ℕ) → IsUtf8 bs → o ≡ slice_get bs 0
    → MatchOption o (chars bs ≡ []) (λ b. FirstByte b (chars bs))
byte_reported bs o u e = grind (arith, no_text, no_first, first_byte)

no_space_at : (cs : List ℕ) (b : ℕ) → FirstByte b cs → 33 ≤ b → b ≤ 126
    → (front_of (in_class WhiteSpace) cs ≡ []) × (after_of (in_class WhiteSpace) cs ≡ cs)
no_space_at cs b h low high = grind (arith, h.split, h.same)

-- a text that begins with a visible ASCII character begins with no white space
pub no_space : (bs : List ℕ) (b : ℕ) → IsUtf8 bs → slice_get bs 0 ≡ Some b → 33 ≤ b → b ≤ 126
    → (front_of (in_class WhiteSpace) (chars bs) ≡ [])
    × (after_of (in_class WhiteSpace) (chars bs) ≡ chars bs)
no_space bs b u e low high = no_space_at (chars bs) b (first_byte bs b u e) low high

-- whether a text ends at once, by its bytes
pub ends_reported : (bs : List ℕ) (r : Bool) → IsUtf8 bs → r ≡ eqb (length bs) 0
    → MatchBool r (chars bs ≡ []) (¬ (chars bs ≡ []))
ends_reported bs r u e = grind (arith, chars_of_end bs, encodes-chars bs u, e)
