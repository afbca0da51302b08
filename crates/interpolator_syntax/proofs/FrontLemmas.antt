-- The longest front of one class, and the rest after it.
use Rattle.std.proofs.Common.{IsCharBoundary, length-append, append_assoc, encode_utf8, length, ◌≡◌}
use Rattle.std.proofs.Common.{IsUtf8, arith, chars, Bool, List, ◌++◌, take, refl, ◌-◌, ◌∷◌, [], ℕ}
use Rattle.std.proofs.lemmas.Str.{chars-append, IsCharBoundary-at_seam, IsUtf8-take}
use Rattle.std.proofs.{lemmas.Grind.common_steps, lemmas.List.append_cancel_right}
use Rattle.std.proofs.Math.Seq.{take-append_seam}
use Rattle.interpolator_syntax.specs.Classes.{front_of, after_of}

pub front_after : (passes : ℕ → Bool) (cs : List ℕ)
    → front_of passes cs ++ after_of passes cs ≡ cs
front_after passes [] = refl
front_after passes (c ∷ cs) = grind (arith, front_after passes cs)

-- `rest` is what some front of the text leaves
abbrev pub IsRest : List ℕ → List ℕ → Type 0
IsRest text rest = (front : List ℕ) × (text ≡ front ++ rest)

pub rest_more : (text rest after : List ℕ) (c : ℕ) → IsRest text rest
    → rest ≡ encode_utf8 c ++ after → IsRest text after
rest_more text rest after c r e = (r.0 ++ encode_utf8 c, rw (append_assoc, ← e) r.1)

pub rest_boundary : (text rest : List ℕ) → IsRest text rest → IsUtf8 rest
    → IsCharBoundary text (length text - length rest)
rest_boundary text rest r u =
    let n : length text - length rest ≡ length r.0 = grind (arith, length-append) in
    rw n (IsCharBoundary-at_seam text r.0 rest r.1 u)

pub cut_at_rest : (text rest : List ℕ) → IsRest text rest
    → take (length text - length rest) text ++ rest ≡ text
cut_at_rest text rest r = grind (arith, common_steps, length-append, take-append_seam)

pub front_cut :
    (passes : ℕ → Bool) (text front rest : List ℕ) → IsUtf8 front → front ++ rest ≡ text
    → after_of passes (chars text) ≡ chars rest → chars front ≡ front_of passes (chars text)
front_cut passes text front rest u e b =
    append_cancel_right _ _ (chars rest)
    (grind (arith, chars-append front rest u, e, front_after passes (chars text), b))

-- the text up to a rest, in front of which the characters pass and at which they stop
pub front_at_rest :
    (passes : ℕ → Bool) (text front rest : List ℕ) → IsUtf8 text → IsUtf8 rest → IsRest text rest
    → front ≡ take (length text - length rest) text → after_of passes (chars text) ≡ chars rest
    → chars front ≡ front_of passes (chars text)
front_at_rest passes text front rest u v r e b =
    let cut = rest_boundary text rest r v in
    let is_text = IsUtf8-take text (length text - length rest) u cut in
    rw e (front_cut passes text _ rest is_text (cut_at_rest text rest r) b)
