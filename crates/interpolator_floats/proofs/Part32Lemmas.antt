-- The parts of an f32 by its pattern, in the steps of an f64.
use Rattle.std.proofs.Common.{◌≡◌, ℕ, suc, ◌<◌, ◌≤◌, ◌-◌, ◌+◌, ◌*◌, ◌/◌, ◌%◌, ◌^◌, Bool, true}
use Rattle.std.proofs.Common.{false, ℤ, cond, T, not, leb, eqb, sym, ap, ◌∙◌, arith, subst}
use Rattle.std.proofs.Common.{true≢false, mul_assoc, pow-add}
use Rattle.std.specs.Float.{float_is_finite}
use lib.Ieee.{Float, nan, inf, fin, binary32, odd, fits, is_nan, of_bits, of_fields, to_bits}
use lib.{Ieee.Bits.of_bits-to_bits, Ieee.Exact.HasValue, Ieee.Exact.odd_sign}
use borrow.Author.Tests.{ne_eqb}
use native.Mathlib.Nat.{lt_of_not-le}
use Rattle.interpolator_floats.proofs.ShortestLemmas.{value_scaled}

-- the fields of a pattern
abbrev pub field_of : ℕ → ℕ
field_of b = b / 2 ^ 23 % 256

abbrev pub low_of : ℕ → ℕ
low_of b = b % 2 ^ 23

sign_and : (b : ℕ) → b % 2 ^ 31 / 2 ^ 23 ≡ field_of b
sign_and b = omega arith

no_infinity : (b : ℕ) (s : Bool) (m : ℕ) (e : ℤ) → field_of b ≡ 255 → of_bits binary32 b ≡ fin s m e → ⊥
unfolding of_bits
no_infinity b s m e h p =
    go (eqb (b % 2 ^ 23) 0) (ap (λ (k : ℕ). of_fields binary32 (leb (2 ^ 31) b) k (b % 2 ^ 23)) (sym (sign_and b ∙ h)) ∙ p)
  where
    go : (t : Bool) → cond t (inf (leb (2 ^ 31) b)) nan ≡ fin s m e → ⊥
    go true q = let z : ◌≡◌ {A = ℕ} 0 1 = cc in omega arith
    go false q = let z : ◌≡◌ {A = ℕ} 0 1 = cc in omega arith

fields_low : (s : Bool) (t : ℕ) → HasValue (of_fields binary32 s 0 t) s (t * 2 ^ 0) (2 ^ 149)
unfolding of_fields
fields_low s t = odd_sign 24 s t 0 149

fields_high : (s : Bool) (j t : ℕ) → suc j < 255 → HasValue (of_fields binary32 s (suc j) t) s ((2 ^ 23 + t) * 2 ^ j) (2 ^ 149)
unfolding of_fields
fields_high s j t X =
    subst (λ (k : Bool). HasValue (cond k (cond (eqb t 0) (inf s) nan) (odd 24 s (2 ^ 23 + t) j 149)) s ((2 ^ 23 + t) * 2 ^ j) (2 ^ 149)) (sym (ne_eqb (suc j) 255 (omega arith)))
    (odd_sign 24 s (2 ^ 23 + t) j 149)

read_low : (b : ℕ) → field_of b ≡ 0 → HasValue (of_bits binary32 b) (leb (2 ^ 31) b) (low_of b * 2 ^ 0) (2 ^ 149)
unfolding of_bits
read_low b h =
    subst (λ (x : ℕ). HasValue (of_fields binary32 (leb (2 ^ 31) b) x (low_of b)) (leb (2 ^ 31) b) (low_of b * 2 ^ 0) (2 ^ 149))
    (sym (sign_and b ∙ h)) (fields_low (leb (2 ^ 31) b) (low_of b))

read_high : (b : ℕ) → 0 < field_of b → field_of b < 255 → HasValue (of_bits binary32 b) (leb (2 ^ 31) b) ((2 ^ 23 + low_of b) * 2 ^ (field_of b - 1)) (2 ^ 149)
unfolding of_bits
read_high b some h =
    let next : suc (field_of b - 1) ≡ b % 2 ^ 31 / 2 ^ 23 = omega (arith, sign_and b) in
    subst (λ (x : ℕ). HasValue (of_fields binary32 (leb (2 ^ 31) b) x (low_of b)) (leb (2 ^ 31) b) ((2 ^ 23 + low_of b) * 2 ^ (field_of b - 1)) (2 ^ 149))
    next (fields_high (leb (2 ^ 31) b) (field_of b - 1) (low_of b) (omega arith))

pub finite_number : (x : Float) → float_is_finite x ≡ true → T (not (is_nan x))
unfolding float_is_finite is_nan
finite_number nan e = absurd (true≢false (sym e))
finite_number (inf s) e = absurd (true≢false (sym e))
finite_number (fin s m d) e = tt

pub below_infinity : (x : Float) → T (fits binary32 x) → float_is_finite x ≡ true → field_of (to_bits binary32 x) < 255
unfolding float_is_finite
below_infinity nan f e = absurd (true≢false (sym e))
below_infinity (inf s) f e = absurd (true≢false (sym e))
below_infinity (fin s m d) f e =
    lt_of_not-le (λ (g : 255 ≤ field_of (to_bits binary32 (fin s m d))). no_infinity (to_bits binary32 (fin s m d)) s m d (omega arith) (of_bits-to_bits binary32 (fin s m d) f))

pub low_parts : (x : Float) → T (fits binary32 x) → field_of (to_bits binary32 x) ≡ 0
    → HasValue x (leb (2 ^ 31) (to_bits binary32 x)) (low_of (to_bits binary32 x) * 2 ^ 0) (2 ^ 149)
low_parts x f h =
    let b = to_bits binary32 x in
    subst (λ (y : Float). HasValue y (leb (2 ^ 31) b) (low_of b * 2 ^ 0) (2 ^ 149)) (of_bits-to_bits binary32 x f) (read_low b h)

pub high_parts : (x : Float) → T (fits binary32 x) → float_is_finite x ≡ true → 0 < field_of (to_bits binary32 x)
    → HasValue x (leb (2 ^ 31) (to_bits binary32 x)) ((low_of (to_bits binary32 x) + 2 ^ 23) * 2 ^ (field_of (to_bits binary32 x) - 1)) (2 ^ 149)
high_parts x f e some =
    let b = to_bits binary32 x in
    let swap : 2 ^ 23 + low_of b ≡ low_of b + 2 ^ 23 = omega arith in
    subst (λ (y : Float). HasValue y (leb (2 ^ 31) b) ((low_of b + 2 ^ 23) * 2 ^ (field_of b - 1)) (2 ^ 149)) (of_bits-to_bits binary32 x f)
    (subst (λ (a : ℕ). HasValue (of_bits binary32 b) (leb (2 ^ 31) b) (a * 2 ^ (field_of b - 1)) (2 ^ 149)) swap (read_high b some (below_infinity x f e)))

-- in steps of 2 ^ -1074
wide : (x : Float) (s : Bool) (m power up : ℕ) → up ≡ power + 925 → HasValue x s (m * 2 ^ power) (2 ^ 149) → HasValue x s (m * 2 ^ up) (2 ^ 1074)
wide x s m power up e v =
    let p : m * 2 ^ power * 2 ^ 925 ≡ m * 2 ^ up = mul_assoc m (2 ^ power) (2 ^ 925) ∙ ap (λ k. m * k) (sym (pow-add 2 power 925) ∙ ap (λ k. 2 ^ k) (sym e)) in
    let c : 2 ^ 149 * 2 ^ 925 ≡ 2 ^ 1074 = sym (pow-add 2 149 925) in
    subst (λ a. HasValue x s a (2 ^ 1074)) p (subst (λ d. HasValue x s (m * 2 ^ power * 2 ^ 925) d) c (value_scaled x s (m * 2 ^ power) (2 ^ 149) (2 ^ 925) v))

pub low_wide : (x : Float) → T (fits binary32 x) → field_of (to_bits binary32 x) ≡ 0
    → HasValue x (leb (2 ^ 31) (to_bits binary32 x)) (low_of (to_bits binary32 x) * 2 ^ 925) (2 ^ 1074)
low_wide x f h = wide x (leb (2 ^ 31) (to_bits binary32 x)) (low_of (to_bits binary32 x)) 0 925 (omega arith) (low_parts x f h)

pub high_wide : (x : Float) → T (fits binary32 x) → float_is_finite x ≡ true → 0 < field_of (to_bits binary32 x)
    → HasValue x (leb (2 ^ 31) (to_bits binary32 x)) ((low_of (to_bits binary32 x) + 2 ^ 23) * 2 ^ (field_of (to_bits binary32 x) + 924)) (2 ^ 1074)
high_wide x f e some =
    let b = to_bits binary32 x in
    wide x (leb (2 ^ 31) b) (low_of b + 2 ^ 23) (field_of b - 1) (field_of b + 924) (omega (arith, some)) (high_parts x f e some)
