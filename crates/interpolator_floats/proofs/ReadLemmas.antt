-- A count inside a float's bounds reads back as the float.
use Rattle.std.proofs.Common.{◌≡◌, ℕ, ◌<◌, ◌≤◌, ◌-◌, ◌+◌, ◌*◌, ◌/◌, ◌%◌, ◌^◌, false, T, not}
use Rattle.std.proofs.Common.{if◌then◌else◌, ◌==◌, sym, ap, ◌∙◌, arith, eq-zero-or-pos, inl, inr}
use Rattle.std.proofs.Common.{subst, pow-add, mul_assoc}
use Rattle.std.proofs.Math.Nat.{mul_comm, mul_right_comm, mul-le-mul_right, mul-lt-mul_of_pos_right}
use Rattle.std.proofs.Math.Nat.{div-lt_iff_lt-mul, le-div_iff_mul-le, add-mul, div-eq_of_lt-le}
use Rattle.std.proofs.Math.Nat.{div-add-mod', lt_of_lt_of_le, mul-pos, mul_left_comm}
use Prim.Native.Nat.{compare, Ordering}
use native.Mathlib.Nat.{lt_of_not-le, not-le_of_lt, eq_of_mul-eq-mul_right, mod-lt}
use lib.Dec.{is_le, compare_is_eq, leb→le, nleb→lt, eqb→eq, eqb_refl, eqb}
use lib.Pow.{pow_pos, pow_mono, shl_lt}
use lib.Ieee.{Float, nan, inf, fin, down, binary64, round, size}
use lib.Ieee.Scale.{round_val, round_under, grid, finite}
use lib.{Arith.lt_of_le-ne, Ieee.Fits.down_pos, Ieee.Digits.size-lt, Ieee.Digits.size-le}
use lib.{Ieee.Exact.HasValue, Ieee.Nearest.closest, Ieee.Nearest.closest_same, Ieee.Order.drop}
use Rattle.interpolator_digits.proofs.ExponentLemmas.{pow_some}
use Rattle.interpolator_floats.specs.Floats.{IsInside}

abbrev Cmp : Ordering → ℕ → ℕ → Type 0
Cmp Ordering.lt a b = a < b
Cmp Ordering.eq a b = a ≡ b
Cmp Ordering.gt a b = b < a

cmp : (a b : ℕ) → Cmp (compare a b) a b
cmp a b = go (compare a b) (leb→le a b) (nleb→lt a b) (eqb→eq a b) (λ (e : a ≡ b). subst (λ (x : ℕ). T (eqb a x)) e (eqb_refl a))
  where
    go : (o : Ordering) → (T (is_le o) → a ≤ b) → (T (not (is_le o)) → b < a) → (T (compare_is_eq o) → a ≡ b) → (a ≡ b → T (compare_is_eq o)) → Cmp o a b
    go Ordering.lt h k e n = lt_of_le-ne (h tt) n
    go Ordering.eq h k e n = e tt
    go Ordering.gt h k e n = k tt

pub slack-le : (m : ℕ) → (if m % 2 == 0 then 1 else 0) ≤ 1
slack-le m = grind arith

-- a fraction less than a half off m, or half and m even, is nearest to m
pub closest_inside : (a b m : ℕ) → 0 < b → 0 < m → 2 * (m * b) < 2 * a + b + (if m % 2 == 0 then 1 else 0) → 2 * a < 2 * (m * b) + b + (if m % 2 == 0 then 1 else 0) → closest a b ≡ m
closest_inside a b m B M low high =
    let s1 = slack-le m in
    let next : (m + 1) * b ≡ m * b + b = omega arith in
    elim (eq-zero-or-pos (m * b - a)) [
      | inl z ↦
          let q : a / b ≡ m = div-eq_of_lt-le b (omega (arith, z)) (omega (arith, z, high, s1, next, B)) in
          let r : m * b + a % b ≡ a = ap (λ x. x * b + a % b) (sym q) ∙ div-add-mod' a b in
          above (a / b) (compare (a % b * 2) b) (a % b) q r (cmp (a % b * 2) b)
      | inr p ↦
          let down : (m - 1) * b + b ≡ m * b = below_one m b M in
          let q : a / b ≡ m - 1 = div-eq_of_lt-le b (omega (arith, down, low, s1, B)) (plain b (omega (arith, down, p))) in
          let r : (m - 1) * b + a % b ≡ a = ap (λ x. x * b + a % b) (sym q) ∙ div-add-mod' a b in
          under (a / b) (compare (a % b * 2) b) (a % b) q r down (cmp (a % b * 2) b)
    ]
  where
    plain : (b : ℕ) → a < (m - 1) * b + b → a < (m - 1 + 1) * b
    plain b h = let e : (m - 1 + 1) * b ≡ (m - 1) * b + b = omega arith in omega (arith, e, h)

    below_one : (m b : ℕ) → 0 < m → (m - 1) * b + b ≡ m * b
    below_one m b M = let e : m ≡ m - 1 + 1 = omega arith in let one : 1 * b ≡ b = omega arith in sym (ap (λ x. x * b) e ∙ add-mul (m - 1) 1 b ∙ ap (λ x. (m - 1) * b + x) one)

    above : (q : ℕ) (o : Ordering) (r : ℕ) → q ≡ m → m * b + r ≡ a → Cmp o (r * 2) b → lib.Ieee.nearest q o ≡ m
    above q Ordering.lt r e s c = e
    above q Ordering.eq r e s c = grind (arith, e, s, c, high)
    above q Ordering.gt r e s c = grind (arith, e, s, c, high)

    under : (q : ℕ) (o : Ordering) (r : ℕ) → q ≡ m - 1 → (m - 1) * b + r ≡ a → (m - 1) * b + b ≡ m * b → Cmp o (r * 2) b → lib.Ieee.nearest q o ≡ m
    under q Ordering.lt r e s d c = grind (arith, e, s, d, c, low)
    under q Ordering.eq r e s d c = grind (arith, e, s, d, c, low)
    under q Ordering.gt r e s d c = grind (arith, e, M)

size-gt : (n j : ℕ) → 2 ^ j ≤ n → j < size n
size-gt n j h = lt_of_not-le (λ (g : size n ≤ j). not-le_of_lt (lt_of_lt_of_le (size-lt n) (pow_mono g)) h)

half_low : (x y t s : ℕ) → s ≤ 1 → 4 * x < 4 * y + (2 * t + s) → 2 * x < 2 * y + t + s
half_low x y t s h l = omega arith

half_high : (x y t s : ℕ) → s ≤ 1 → 4 * y < 4 * x + (2 * t + s) → 2 * y < 2 * x + t + s
half_high x y t s h l = omega arith

grid_is : (m power c t : ℕ) → 0 < t → power ≤ 1074 → 2 ^ 52 ≤ m → m < 2 ^ 53
    → 2 ^ 52 * t ≤ c * 2 ^ (1074 - power)
    → 2 * (m * t) < 2 * (c * 2 ^ (1074 - power)) + t + (if m % 2 == 0 then 1 else 0)
    → 2 * (c * 2 ^ (1074 - power)) < 2 * (m * t) + t + (if m % 2 == 0 then 1 else 0)
    → grid binary64 c t ≡ m * 2 ^ power
grid_is m power c t T0 P N M bottom low high =
    let down = 1074 - power in
    let a = c * 2 ^ down in
    let n = c * 2 ^ 1074 in
    let s1 = slack-le m in
    let back : down + power ≡ 1074 = omega arith in
    let whole : n ≡ a * 2 ^ power = ap (λ x. c * x) (ap (λ k. 2 ^ k) (sym back) ∙ pow-add 2 down power) ∙ sym (mul_assoc c (2 ^ down) (2 ^ power)) in
    let some = pow_pos power in
    let top : m * t ≤ (2 ^ 53 - 1) * t = mul-le-mul_right t (omega arith) in
    let above : a < 2 ^ 53 * t = omega (arith, high, top, s1, T0) in
    let l52 : 2 ^ (52 + power) * t ≡ 2 ^ 52 * t * 2 ^ power = ap (λ x. x * t) (pow-add 2 52 power) ∙ mul_right_comm (2 ^ 52) (2 ^ power) t in
    let l53 : 2 ^ (53 + power) * t ≡ 2 ^ 53 * t * 2 ^ power = ap (λ x. x * t) (pow-add 2 53 power) ∙ mul_right_comm (2 ^ 53) (2 ^ power) t in
    let b1 : 2 ^ 52 * t * 2 ^ power ≤ a * 2 ^ power = mul-le-mul_right (2 ^ power) bottom in
    let b2 : a * 2 ^ power < 2 ^ 53 * t * 2 ^ power = mul-lt-mul_of_pos_right above some in
    let d1 : 2 ^ (52 + power) ≤ n / t = (le-div_iff_mul-le T0).1 (omega (arith, l52, b1, whole)) in
    let d2 : n / t < 2 ^ (53 + power) = (div-lt_iff_lt-mul T0).1 (omega (arith, l53, b2, whole)) in
    let z : drop 53 n t ≡ power = omega (arith, size-gt (n / t) (52 + power) d1, size-le (n / t) (53 + power) d2) in
    let cross : n * t ≡ a * (t * 2 ^ power) = ap (λ x. x * t) whole ∙ mul_assoc a (2 ^ power) t ∙ ap (λ x. a * x) (mul_comm (2 ^ power) t) in
    let k : closest n (t * 2 ^ power) ≡ m =
    closest_same n (t * 2 ^ power) a t (mul-pos T0 some) T0 cross
    ∙ closest_inside a t m T0 (omega (arith, N)) low high in
    (λ i. closest n (t * 2 ^ z i) * 2 ^ z i) ∙ ap (λ x. x * 2 ^ power) k

-- the count reads as m * 2 ^ power steps of 2 ^ -1074
pub reads : (m power places count : ℕ) → power ≤ 1074 → 2 ^ 52 ≤ m → m < 2 ^ 53
    → 2 ^ 52 * 10 ^ places ≤ count * 2 ^ (1074 - power)
    → IsInside (m * 4 * 10 ^ places) (4 * 2 ^ (1074 - power)) (2 * 10 ^ places + (if m % 2 == 0 then 1 else 0))
    (2 * 10 ^ places + (if m % 2 == 0 then 1 else 0)) count
    → HasValue (round binary64 false count (10 ^ places)) false (m * 2 ^ power) (2 ^ 1074)
reads m power places count P N M bottom i =
    let t = 10 ^ places in
    let down = 1074 - power in
    let s1 = slack-le m in
    let four : count * (4 * 2 ^ down) ≡ 4 * (count * 2 ^ down) = mul_left_comm count 4 (2 ^ down) in
    let units : m * 4 * t ≡ 4 * (m * t) = ap (λ x. x * t) (mul_comm m 4) ∙ mul_assoc 4 m t in
    let low = half_low (m * t) (count * 2 ^ down) t _ s1 (omega (arith, i.low, four, units)) in
    let high = half_high (m * t) (count * 2 ^ down) t _ s1 (omega (arith, i.high, four, units)) in
    let g = grid_is m power count t (pow_some places) P N M bottom low high in
    let fits : m * 2 ^ power < 2 ^ 2098 = lt_of_lt_of_le (shl_lt {a = m} 53 power M) (pow_mono {i = 53 + power} {j = 2098} (omega arith)) in
    subst (λ x. HasValue (round binary64 false count t) false x (2 ^ 1074)) g
    (round_val binary64 count t (subst (λ x. x < 2 ^ 2098) (sym g) fits))

-- ---- and no other

slack_even : (m : ℕ) → m % 2 ≡ 0 → 1 ≤ (if m % 2 == 0 then 1 else 0)
slack_even m h = grind (arith, h)

pub closest_only : (a b m : ℕ) → 0 < b → closest a b ≡ m
    → (2 * (m * b) < 2 * a + b + (if m % 2 == 0 then 1 else 0)) × (2 * a < 2 * (m * b) + b + (if m % 2 == 0 then 1 else 0))
closest_only a b m B e = go (a / b) (compare (a % b * 2) b) (a % b) (div-add-mod' a b) (mod-lt a B) (cmp (a % b * 2) b) e
  where
    go : (q : ℕ) (o : Ordering) (r : ℕ) → q * b + r ≡ a → r < b → Cmp o (r * 2) b → lib.Ieee.nearest q o ≡ m
        → (2 * (m * b) < 2 * a + b + (if m % 2 == 0 then 1 else 0)) × (2 * a < 2 * (m * b) + b + (if m % 2 == 0 then 1 else 0))
    go q Ordering.lt r s l c e =
        let w : q * b ≡ m * b = ap (λ x. x * b) e in (omega (arith, w, s, c, B), omega (arith, w, s, c))
    go q Ordering.eq r s l c e =
        let even : m % 2 ≡ 0 = omega (arith, e) in
        let one = slack_even m even in
        elim (eq-zero-or-pos (q % 2)) [
          | inl z ↦
              let same : q ≡ m = omega (arith, e, z) in
              let w : q * b ≡ m * b = ap (λ x. x * b) same in (omega (arith, w, s, c, B, one), omega (arith, w, s, c, one))
          | inr p ↦
              let same : q + 1 ≡ m = omega (arith, e, p) in
              let w : q * b + b ≡ m * b = (let d : (q + 1) * b ≡ q * b + b = omega arith in sym d ∙ ap (λ x. x * b) same) in
              (omega (arith, w, s, c, one), omega (arith, w, s, c, one))
        ]
    go q Ordering.gt r s l c e =
        let same : q + 1 ≡ m = omega (arith, e) in
        let w : q * b + b ≡ m * b = (let d : (q + 1) * b ≡ q * b + b = omega arith in sym d ∙ ap (λ x. x * b) same) in
        (omega (arith, w, s, c, l), omega (arith, w, s, c, l))

grid_at : (power c t : ℕ) → 0 < t → power ≤ 1074 → 2 ^ 52 * t ≤ c * 2 ^ (1074 - power) → c * 2 ^ (1074 - power) < 2 ^ 53 * t
    → grid binary64 c t ≡ closest (c * 2 ^ (1074 - power)) t * 2 ^ power
grid_at power c t T0 P bottom above =
    let down = 1074 - power in
    let a = c * 2 ^ down in
    let n = c * 2 ^ 1074 in
    let back : down + power ≡ 1074 = omega arith in
    let whole : n ≡ a * 2 ^ power = ap (λ x. c * x) (ap (λ k. 2 ^ k) (sym back) ∙ pow-add 2 down power) ∙ sym (mul_assoc c (2 ^ down) (2 ^ power)) in
    let some = pow_pos power in
    let l52 : 2 ^ (52 + power) * t ≡ 2 ^ 52 * t * 2 ^ power = ap (λ x. x * t) (pow-add 2 52 power) ∙ mul_right_comm (2 ^ 52) (2 ^ power) t in
    let l53 : 2 ^ (53 + power) * t ≡ 2 ^ 53 * t * 2 ^ power = ap (λ x. x * t) (pow-add 2 53 power) ∙ mul_right_comm (2 ^ 53) (2 ^ power) t in
    let b1 : 2 ^ 52 * t * 2 ^ power ≤ a * 2 ^ power = mul-le-mul_right (2 ^ power) bottom in
    let b2 : a * 2 ^ power < 2 ^ 53 * t * 2 ^ power = mul-lt-mul_of_pos_right above some in
    let d1 : 2 ^ (52 + power) ≤ n / t = (le-div_iff_mul-le T0).1 (omega (arith, l52, b1, whole)) in
    let d2 : n / t < 2 ^ (53 + power) = (div-lt_iff_lt-mul T0).1 (omega (arith, l53, b2, whole)) in
    let z : drop 53 n t ≡ power = omega (arith, size-gt (n / t) (52 + power) d1, size-le (n / t) (53 + power) d2) in
    let cross : n * t ≡ a * (t * 2 ^ power) = ap (λ x. x * t) whole ∙ mul_assoc a (2 ^ power) t ∙ ap (λ x. a * x) (mul_comm (2 ^ power) t) in
    (λ i. closest n (t * 2 ^ z i) * 2 ^ z i) ∙ ap (λ x. x * 2 ^ power) (closest_same n (t * 2 ^ power) a t (mul-pos T0 some) T0 cross)

pub same_size : (x : Float) (a b : ℕ) → HasValue x false a (2 ^ 1074) → HasValue x false b (2 ^ 1074) → a ≡ b
same_size nan a b v w = absurd v
same_size (inf s) a b v w = absurd v
same_size (fin s m e) a b v w = eq_of_mul-eq-mul_right (down e) (down_pos e) a b (sym v.1 ∙ w.1)

pub finite_of : (x : Float) (a c : ℕ) → HasValue x false a c → T (finite x)
finite_of nan a c v = v
finite_of (inf s) a c v = absurd v
finite_of (fin s m e) a c v = tt

-- a count in the range of the float that reads as it lies inside its bounds
pub reads_only : (m power places count : ℕ) → power ≤ 1074
    → 2 ^ 52 * 10 ^ places ≤ count * 2 ^ (1074 - power) → count * 2 ^ (1074 - power) < 2 ^ 53 * 10 ^ places
    → HasValue (round binary64 false count (10 ^ places)) false (m * 2 ^ power) (2 ^ 1074)
    → IsInside (m * 4 * 10 ^ places) (4 * 2 ^ (1074 - power)) (2 * 10 ^ places + (if m % 2 == 0 then 1 else 0))
    (2 * 10 ^ places + (if m % 2 == 0 then 1 else 0)) count
reads_only m power places count P bottom above v =
    let t = 10 ^ places in
    let deep = 2 ^ (1074 - power) in
    let R = round binary64 false count t in
    let g : grid binary64 count t ≡ m * 2 ^ power =
    same_size R _ _ (round_val binary64 count t (round_under binary64 count t (finite_of R _ _ v))) v in
    let k : closest (count * deep) t ≡ m =
    eq_of_mul-eq-mul_right (2 ^ power) (pow_pos power) (closest (count * deep) t) m
    (sym (grid_at power count t (pow_some places) P bottom above) ∙ g) in
    let both = closest_only (count * deep) t m (pow_some places) k in
    let s1 = slack-le m in
    let four : count * (4 * deep) ≡ 4 * (count * deep) = mul_left_comm count 4 deep in
    let units : m * 4 * t ≡ 4 * (m * t) = ap (λ x. x * t) (mul_comm m 4) ∙ mul_assoc 4 m t in
    record {
      low = omega (arith, four, units, double (m * t) (count * deep) t _ s1 both.0);
      high = omega (arith, four, units, double (count * deep) (m * t) t _ s1 both.1);
    }
  where
    double : (x y t s : ℕ) → s ≤ 1 → 2 * x < 2 * y + t + s → 4 * x < 4 * y + (2 * t + s)
    double x y t s h l = omega arith
