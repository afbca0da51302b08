-- The parts of a float by its pattern.
use Rattle.std.proofs.Common.{◌≡◌, ℕ, zero, suc, ◌<◌, ◌≤◌, ◌-◌, ◌+◌, ◌*◌, ◌/◌, ◌%◌, ◌^◌, Bool, true}
use Rattle.std.proofs.Common.{false, ℤ, cond, T, not, leb, eqb, refl, sym, ap, ◌∙◌, arith, subst}
use Rattle.std.proofs.Common.{true≢false, mul_assoc, pow-add, pow-suc, codes}
use Rattle.std.proofs.Math.Nat.{div-one, div-div-eq-div-mul, mul_comm}
use Rattle.std.specs.Float.{float_is_finite, float_is_infinite, is_sign_negative}
use lib.Ieee.{Float, nan, inf, fin, binary64, odd, fits, is_nan, of_bits, of_fields, to_bits}
use lib.{Count.count_trailing_zeros, Count.under, Ieee.Bits.of_bits-to_bits, Ieee.Exact.HasValue}
use lib.Ieee.Exact.{odd_sign}
use borrow.Author.Tests.{ne_eqb}
use native.Mathlib.Nat.{lt_of_not-le}
use Rattle.interpolator_floats.specs.Floats.{float_word, has_minus}

-- the fields of a pattern
abbrev pub field_of : ℕ → ℕ
field_of b = b / 2 ^ 52 % 2048

abbrev pub low_of : ℕ → ℕ
low_of b = b % 2 ^ 52

sign_and : (b : ℕ) → b % 2 ^ 63 / 2 ^ 52 ≡ field_of b
sign_and b = omega arith

no_infinity : (b : ℕ) (s : Bool) (m : ℕ) (e : ℤ) → field_of b ≡ 2047 → of_bits binary64 b ≡ fin s m e → ⊥
unfolding of_bits
no_infinity b s m e h p =
    go (eqb (b % 2 ^ 52) 0) (ap (λ (k : ℕ). of_fields binary64 (leb (2 ^ 63) b) k (b % 2 ^ 52)) (sym (sign_and b ∙ h)) ∙ p)
  where
    go : (t : Bool) → cond t (inf (leb (2 ^ 63) b)) nan ≡ fin s m e → ⊥
    go true q = let z : ◌≡◌ {A = ℕ} 0 1 = cc in omega arith
    go false q = let z : ◌≡◌ {A = ℕ} 0 1 = cc in omega arith

fields_low : (s : Bool) (t : ℕ) → HasValue (of_fields binary64 s 0 t) s (t * 2 ^ 0) (2 ^ 1074)
unfolding of_fields
fields_low s t = odd_sign 53 s t 0 1074

fields_high : (s : Bool) (j t : ℕ) → suc j < 2047 → HasValue (of_fields binary64 s (suc j) t) s ((2 ^ 52 + t) * 2 ^ j) (2 ^ 1074)
unfolding of_fields
fields_high s j t X =
    subst (λ (k : Bool). HasValue (cond k (cond (eqb t 0) (inf s) nan) (odd 53 s (2 ^ 52 + t) j 1074)) s ((2 ^ 52 + t) * 2 ^ j) (2 ^ 1074)) (sym (ne_eqb (suc j) 2047 (omega arith)))
    (odd_sign 53 s (2 ^ 52 + t) j 1074)

read_low : (b : ℕ) → field_of b ≡ 0 → HasValue (of_bits binary64 b) (leb (2 ^ 63) b) (low_of b * 2 ^ 0) (2 ^ 1074)
unfolding of_bits
read_low b h =
    subst (λ (x : ℕ). HasValue (of_fields binary64 (leb (2 ^ 63) b) x (low_of b)) (leb (2 ^ 63) b) (low_of b * 2 ^ 0) (2 ^ 1074))
    (sym (sign_and b ∙ h)) (fields_low (leb (2 ^ 63) b) (low_of b))

read_high : (b : ℕ) → 0 < field_of b → field_of b < 2047 → HasValue (of_bits binary64 b) (leb (2 ^ 63) b) ((2 ^ 52 + low_of b) * 2 ^ (field_of b - 1)) (2 ^ 1074)
unfolding of_bits
read_high b some h =
    let next : suc (field_of b - 1) ≡ b % 2 ^ 63 / 2 ^ 52 = omega (arith, sign_and b) in
    subst (λ (x : ℕ). HasValue (of_fields binary64 (leb (2 ^ 63) b) x (low_of b)) (leb (2 ^ 63) b) ((2 ^ 52 + low_of b) * 2 ^ (field_of b - 1)) (2 ^ 1074))
    next (fields_high (leb (2 ^ 63) b) (field_of b - 1) (low_of b) (omega arith))

pub finite_number : (x : Float) → float_is_finite x ≡ true → T (not (is_nan x))
unfolding float_is_finite is_nan
finite_number nan e = absurd (true≢false (sym e))
finite_number (inf s) e = absurd (true≢false (sym e))
finite_number (fin s m d) e = tt

pub below_infinity : (x : Float) → T (fits binary64 x) → float_is_finite x ≡ true → field_of (to_bits binary64 x) < 2047
unfolding float_is_finite
below_infinity nan f e = absurd (true≢false (sym e))
below_infinity (inf s) f e = absurd (true≢false (sym e))
below_infinity (fin s m d) f e =
    lt_of_not-le (λ (g : 2047 ≤ field_of (to_bits binary64 (fin s m d))). no_infinity (to_bits binary64 (fin s m d)) s m d (omega arith) (of_bits-to_bits binary64 (fin s m d) f))

pub low_parts : (x : Float) → T (fits binary64 x) → field_of (to_bits binary64 x) ≡ 0
    → HasValue x (leb (2 ^ 63) (to_bits binary64 x)) (low_of (to_bits binary64 x) * 2 ^ 0) (2 ^ 1074)
low_parts x f h =
    let b = to_bits binary64 x in
    subst (λ (y : Float). HasValue y (leb (2 ^ 63) b) (low_of b * 2 ^ 0) (2 ^ 1074)) (of_bits-to_bits binary64 x f) (read_low b h)

pub high_parts : (x : Float) → T (fits binary64 x) → float_is_finite x ≡ true → 0 < field_of (to_bits binary64 x)
    → HasValue x (leb (2 ^ 63) (to_bits binary64 x)) ((low_of (to_bits binary64 x) + 2 ^ 52) * 2 ^ (field_of (to_bits binary64 x) - 1)) (2 ^ 1074)
high_parts x f e some =
    let b = to_bits binary64 x in
    let swap : 2 ^ 52 + low_of b ≡ low_of b + 2 ^ 52 = omega arith in
    subst (λ (y : Float). HasValue y (leb (2 ^ 63) b) ((low_of b + 2 ^ 52) * 2 ^ (field_of b - 1)) (2 ^ 1074)) (of_bits-to_bits binary64 x f)
    (subst (λ (a : ℕ). HasValue (of_bits binary64 b) (leb (2 ^ 63) b) (a * 2 ^ (field_of b - 1)) (2 ^ 1074)) swap (read_high b some (below_infinity x f e)))

-- ---- zero bits at the end of a mantissa

-- what is left of a number above zero is odd, and by so many doublings it is the number
shifted_out : (d n : ℕ) → 0 < n → n < 2 ^ d → (n / 2 ^ count_trailing_zeros d n * 2 ^ count_trailing_zeros d n ≡ n) × (n / 2 ^ count_trailing_zeros d n % 2 ≡ 1)
unfolding count_trailing_zeros
shifted_out zero n h w = absurd (omega arith)
shifted_out (suc d) n h w = go (n % 2) refl (shifted_out d (n / 2))
  where
    go : (r : ℕ) → n % 2 ≡ r
        → (0 < n / 2 → n / 2 < 2 ^ d → (n / 2 / 2 ^ count_trailing_zeros d (n / 2) * 2 ^ count_trailing_zeros d (n / 2) ≡ n / 2) × (n / 2 / 2 ^ count_trailing_zeros d (n / 2) % 2 ≡ 1))
        → (n / 2 ^ under r (count_trailing_zeros d (n / 2)) * 2 ^ under r (count_trailing_zeros d (n / 2)) ≡ n) × (n / 2 ^ under r (count_trailing_zeros d (n / 2)) % 2 ≡ 1)
    go zero e less =
        let t = count_trailing_zeros d (n / 2) in
        let rest = less (omega arith) (omega (arith, pow-suc 2 d)) in
        let half : n / 2 ^ suc t ≡ n / 2 / 2 ^ t = ap (λ x. n / x) (pow-suc 2 t ∙ mul_comm (2 ^ t) 2) ∙ sym (div-div-eq-div-mul n 2 (2 ^ t)) in
        let twice : n / 2 / 2 ^ t * 2 ^ suc t ≡ n / 2 / 2 ^ t * 2 ^ t * 2 = ap (λ x. n / 2 / 2 ^ t * x) (pow-suc 2 t) ∙ sym (mul_assoc (n / 2 / 2 ^ t) (2 ^ t) 2) in
        (ap (λ x. x * 2 ^ suc t) half ∙ omega (arith, twice, rest.0), ap (λ x. x % 2) half ∙ rest.1)
    go (suc r) e less =
        let one : n / 2 ^ 0 ≡ n = div-one n in
        (omega (arith, one), omega (arith, one))

pub odd_value : (m power : ℕ) → 0 < m → m < 2 ^ 64
    → m / 2 ^ count_trailing_zeros 64 m * 2 ^ (power + count_trailing_zeros 64 m) ≡ m * 2 ^ power
odd_value m power h w =
    let t = count_trailing_zeros 64 m in
    ap (λ x. m / 2 ^ t * x) (pow-add 2 power t ∙ mul_comm (2 ^ power) (2 ^ t)) ∙ sym (mul_assoc (m / 2 ^ t) (2 ^ t) (2 ^ power))
    ∙ ap (λ x. x * 2 ^ power) (shifted_out 64 m h w).0

pub odd_rest : (m : ℕ) → 0 < m → m < 2 ^ 64 → m / 2 ^ count_trailing_zeros 64 m % 2 ≡ 1
odd_rest m h w = (shifted_out 64 m h w).1

pub zero_parts : (x : Float) (s : Bool) (m power : ℕ) → HasValue x s (m * 2 ^ power) (2 ^ 1074) → m ≡ 0 → HasValue x s (0 * 2 ^ 1074) (2 ^ 1074)
zero_parts x s m power v z =
    let none : m * 2 ^ power ≡ 0 * 2 ^ 1074 = ap (λ t. t * 2 ^ power) z ∙ omega arith in
    subst (λ t. HasValue x s t (2 ^ 1074)) none v

pub ruleset odd_steps = (odd_value, odd_rest)

-- ---- signs and words

pub sign_of : (x : Float) → is_nan x ≡ false → is_sign_negative x ≡ has_minus x
unfolding is_nan is_sign_negative
sign_of nan e = absurd (true≢false e)
sign_of (inf s) e = refl
sign_of (fin s m d) e = refl

pub no_sign : (x : Float) → is_nan x ≡ true → false ≡ has_minus x
unfolding is_nan
no_sign nan e = refl
no_sign (inf s) e = absurd (true≢false (sym e))
no_sign (fin s m d) e = absurd (true≢false (sym e))

pub nan_word : (x : Float) → is_nan x ≡ true → codes "NaN" ≡ float_word x
unfolding is_nan
nan_word nan e = refl
nan_word (inf s) e = absurd (true≢false (sym e))
nan_word (fin s m d) e = absurd (true≢false (sym e))

pub inf_word : (x : Float) → float_is_infinite x ≡ true → codes "inf" ≡ float_word x
unfolding float_is_infinite
inf_word nan e = absurd (true≢false (sym e))
inf_word (inf s) e = refl
inf_word (fin s m d) e = absurd (true≢false (sym e))

pub nan_not_finite : (x : Float) → is_nan x ≡ true → float_is_finite x ≡ true → ⊥
unfolding is_nan float_is_finite
nan_not_finite nan e f = true≢false (sym f)
nan_not_finite (inf s) e f = true≢false (sym f)
nan_not_finite (fin s m d) e f = true≢false (sym e)

pub inf_not_finite : (x : Float) → float_is_infinite x ≡ true → float_is_finite x ≡ true → ⊥
unfolding float_is_infinite float_is_finite
inf_not_finite nan e f = true≢false (sym f)
inf_not_finite (inf s) e f = true≢false (sym f)
inf_not_finite (fin s m d) e f = true≢false (sym e)

pub finite_rest : (x : Float) → is_nan x ≡ false → float_is_infinite x ≡ false → float_is_finite x ≡ true
unfolding is_nan float_is_infinite float_is_finite
finite_rest nan e f = absurd (true≢false e)
finite_rest (inf s) e f = absurd (true≢false f)
finite_rest (fin s m d) e f = refl
