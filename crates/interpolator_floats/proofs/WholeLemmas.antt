-- The shortest digits of a whole number are its own.
use Rattle.std.proofs.Common.{◌≡◌, ◌≢◌, ◌⊎◌, ℕ, suc, ◌<◌, ◌≤◌, ◌-◌, ◌+◌, ◌*◌, ◌/◌, ◌%◌, ◌^◌, Bool, true, false}
use Rattle.std.proofs.Common.{refl, sym, ap, ◌∙◌, arith, eq-zero-or-pos, inl, inr, subst, true≢false, pow-add, mul_assoc}
use Rattle.std.proofs.Math.Nat.{div-add-mod', mul_comm, mul-le-mul_right, mul-le-mul_left, mul-pos, pow-le-pow_right}
use lib.Ieee.{Format}
use lib.Pow.{pow_pos}
use Rattle.interpolator_floats.proofs.BoundLemmas.{slack}
use Rattle.interpolator_floats.proofs.ChosenLemmas.{same_digits}
use Rattle.interpolator_floats.proofs.ReadLemmas.{slack-le}
use Rattle.interpolator_floats.proofs.ShortestLemmas.{found_shortest}
use Rattle.interpolator_floats.proofs.UnitLemmas.{any_scale, count_short, down_of, few_zeros, step_some, unit_some, up_of}
use Rattle.interpolator_floats.specs.Floats.{IsChoice}
use Rattle.interpolator_floats.specs.Shortest.{HasMantissa, IsScale, IsShortest, units_down, units_up}
use Rattle.interpolator_floats.specs.ShortestDigits.{digits_of}

-- ---- the test

pub step_fits : (power : ℕ) → ¬ (power < 1011) → ¬ (1073 < power) → 2 ^ (1074 - power) < 2 ^ 64
step_fits power low high = let few : 1074 - power ≤ 63 = omega (arith, low) in let h : 2 ^ (1074 - power) ≤ 2 ^ 63 = pow-le-pow_right (omega arith) few in omega (arith, h)

pub whole_count : (m power : ℕ) → m % 2 ^ (1074 - power) ≡ 0 → m ≡ m / 2 ^ (1074 - power) * 2 ^ (1074 - power)
whole_count m power z = sym (omega (arith, div-add-mod' m (2 ^ (1074 - power)), z))

pub ruleset whole_steps = (step_fits, whole_count, pow_pos)

-- ---- its digits

module _ (n m power half digits zeros : ℕ) (some : 0 < m) (is : m ≡ n * 2 ^ (1074 - power)) (below : power < 1074) (short : m < 2 ^ 53) (least : 1 ≤ half) (most : half ≤ 2)
    (even : half ≡ 1 → m % 2 ≡ 0) (split : n ≡ digits * 10 ^ zeros) (last : digits % 10 ≢ 0) where
  -- a scale of parts of one
  abbrev Parts : Type 0
  Parts = (down : ℕ) × IsScale power half 0 down

  parts_at : (loss : ℕ) → (half ≡ 1 → loss ≡ 131008) → (half ≡ 2 → loss ≡ 0) → Parts
  parts_at loss near far =
      let none : up_of loss power ≡ 0 = omega (arith, below) in
      (down_of loss power, subst (λ u. IsScale power half u (down_of loss power)) none (any_scale power half loss (omega (arith, below)) least most near far))

  parts : Parts
  parts = elim (eq-zero-or-pos (half - 1)) [
    | inl z ↦ parts_at 131008 (λ e. refl) (λ e. absurd (omega (arith, e, z)))
    | inr p ↦ parts_at 0 (λ e. absurd (omega (arith, e, p))) (λ e. refl)
  ]

  abbrev down : ℕ
  down = parts.0

  scale : IsScale power half 0 down
  scale = parts.1

  abbrev d : ℕ
  d = units_down power down

  abbrev u : ℕ
  u = units_up 0

  abbrev count : ℕ
  count = n * 10 ^ down

  -- so many units are the number, exactly
  exact : count * u ≡ 4 * (m * d)
  exact =
      let two : 2 ^ (1074 - power) * 2 ^ power ≡ 2 ^ 1074 = sym (pow-add 2 (1074 - power) power) ∙ ap (λ k. 2 ^ k) (let e : 1074 - power + power ≡ 1074 = omega (arith, below) in e) in
      let left : n * 10 ^ down * (4 * (10 ^ 0 * 2 ^ 1074)) ≡ 4 * (n * 2 ^ 1074 * 10 ^ down) = shape n (10 ^ down) (2 ^ 1074) in
      let right : 4 * (m * (2 ^ power * 10 ^ down)) ≡ 4 * (n * (2 ^ (1074 - power) * 2 ^ power) * 10 ^ down) = ap (λ x. 4 * (x * (2 ^ power * 10 ^ down))) is ∙ other n (2 ^ (1074 - power)) (2 ^ power) (10 ^ down) in
      left ∙ ap (λ x. 4 * (n * x * 10 ^ down)) (sym two) ∙ sym right
    where
      shape : (n t w : ℕ) → n * t * (4 * (1 * w)) ≡ 4 * (n * w * t)
      shape n t w = omega arith

      other : (n a b t : ℕ) → 4 * (n * a * (b * t)) ≡ 4 * (n * (a * b) * t)
      other n a b t = omega arith

  -- its parts are less than one
  down_some : 0 < down
  down_some = elim (eq-zero-or-pos down) [
    | inr p ↦ p
    | inl z ↦
        let next : 1 + power ≤ 1074 = omega (arith, below) in
        let wide : 2 * 2 ^ power ≤ 2 ^ 1074 = subst (λ x. x ≤ 2 ^ 1074) (pow-add 2 1 power) (pow-le-pow_right (omega arith) next) in
        let one : d ≡ 2 ^ power = ap (λ k. 2 ^ power * 10 ^ k) z ∙ omega arith in
        let four : (half + 2) * d ≤ 4 * d = mul-le-mul_right d (omega (arith, most)) in
        absurd (omega (arith, scale.finer, four, one, wide, pow_pos power))
  ]

  tenfold : count % 10 ≡ 0
  tenfold =
      let e : down ≡ down - 1 + 1 = omega (arith, down_some) in
      let t : count ≡ n * 10 ^ (down - 1) * 10 = ap (λ k. n * 10 ^ k) e ∙ ap (λ x. n * x) (pow-add 10 (down - 1) 1) ∙ sym (mul_assoc n (10 ^ (down - 1)) 10) in
      omega (arith, t)

  -- ten units are wider than the bounds
  narrow : (half * d + slack m < 10 * u) × (2 * d + slack m < 10 * u)
  narrow =
      let D = step_some power down in
      let a : half * d + 2 * d ≡ (half + 2) * d = omega arith in
      let b : 1 * d ≤ half * d = mul-le-mul_right d least in
      (omega (arith, scale.least, a, D, slack-le m), omega (arith, scale.least, a, b, D, slack-le m))

  only : (other : ℕ) → Rattle.interpolator_floats.specs.Floats.IsInside (4 * (m * d)) u (half * d + slack m) (2 * d + slack m) other → other % 10 ≡ 0 → other ≡ count
  only other i ten = elim (eq-zero-or-pos (other - count)) [
    | inr p ↦
        let far : (count + 10) * u ≤ other * u = mul-le-mul_right u (omega (arith, p, ten, tenfold)) in
        absurd (omega (arith, far, i.high, exact, narrow.1))
    | inl z ↦ elim (eq-zero-or-pos (count - other)) [
      | inl y ↦ omega (arith, y, z)
      | inr p ↦
          let far : (other + 10) * u ≤ count * u = mul-le-mul_right u (omega (arith, p, ten, tenfold)) in
          absurd (omega (arith, far, i.low, exact, narrow.0))
    ]
  ]

  choice : IsChoice (4 * (m * d)) u (half * d + slack m) (2 * d + slack m) count true
  choice =
      let D = step_some power down in
      let b : 1 * d ≤ half * d = mul-le-mul_right d least in record {
        inside = record { low = omega (arith, exact, b, D); high = omega (arith, exact, D) };
        tenfold = λ e. tenfold;
        few = λ e. absurd (true≢false e);
        only = λ e. only;
        near = λ e. absurd (true≢false e);
        greater = λ e. absurd (true≢false e);
      }

  all_zeros : count ≡ digits * 10 ^ (down + zeros)
  all_zeros = ap (λ x. x * 10 ^ down) split ∙ mul_assoc digits (10 ^ zeros) (10 ^ down) ∙ ap (λ x. digits * x) (mul_comm (10 ^ zeros) (10 ^ down) ∙ sym (pow-add 10 down zeros))

  digits_some : 0 < digits
  digits_some = elim (eq-zero-or-pos digits) [
    | inr p ↦ p
    | inl z ↦ absurd (last (omega (arith, z)))
  ]

  few : down + zeros ≤ 19
  few =
      let U = unit_some 0 in
      let a : 4 * m * d ≡ count * u = mul_assoc 4 m d ∙ sym exact in
      let s : 4 * m * d / u < 2 ^ 60 = count_short (4 * m) power half 0 down (omega (arith, short)) least scale in
      let c : 4 * m * d / u ≡ count = ap (λ x. x / u) a ∙ Rattle.std.proofs.Math.Nat.mul-div_cancel count U in
      few_zeros count digits (down + zeros) all_zeros digits_some (omega (arith, s, c))

  pub whole_is : record { digits = digits; up = zeros; down = 0 } ≡ digits_of m power half
  whole_is = same_digits m power half 0 down count digits (down + zeros) zeros 0 true some least most even scale choice all_zeros (λ e. absurd (true≢false e)) (λ e. last) few (omega arith) (omega arith)

  pub whole_shortest : (f : Format) (k : ℕ) → HasMantissa f m k power half → IsShortest f (m * 2 ^ power) digits zeros 0
  whole_shortest f k has = found_shortest f m k power half 0 down count true digits (down + zeros) zeros 0 has most scale choice all_zeros (λ e. absurd (true≢false e)) (λ e. last) (omega arith)
