-- A choice by other units of one value.
use Rattle.std.proofs.Common.{◌≡◌, ◌⊎◌, ℕ, ◌<◌, ◌≤◌, ◌+◌, ◌*◌, ◌^◌, Bool, inl, inr, refl, sym, ap}
use Rattle.std.proofs.Common.{◌∙◌, arith, subst, pow-add, mul_assoc}
use Rattle.std.proofs.Math.Nat.{mul_comm, mul-le-mul_right, mul-lt-mul_of_pos_right}
use lib.Pow.{pow_pos}
use Rattle.interpolator_digits.specs.Exponent.{distance}
use Rattle.interpolator_floats.proofs.ShortLemmas.{cross, distance_scaled}
use Rattle.interpolator_floats.proofs.{BoundLemmas.slack, ReadLemmas.slack-le}
use Rattle.interpolator_floats.specs.Floats.{IsChoice, IsInside}
use Rattle.interpolator_floats.specs.Shortest.{IsScale, units_down, units_up}

module _ (n unit below above s k : ℕ) (S : s ≤ 1) (K : 0 < k) where
  far : (c : ℕ) → c * (unit * k) ≡ c * unit * k
  far c = sym (mul_assoc c unit k)

  wider : (c : ℕ) → IsInside n unit (below + s) (above + s) c → IsInside (n * k) (unit * k) (below * k + s) (above * k + s) c
  wider c i =
      let e = far c in
      let a : (c * unit + below) * k ≡ c * unit * k + below * k = omega arith in
      let b : (n + above) * k ≡ n * k + above * k = omega arith in
      let low : n * k < c * (unit * k) + below * k + s = cross (n * k) (c * (unit * k) + below * k) n (c * unit + below) s k 1 K (omega arith) S (omega (arith, i.low)) (omega arith) (omega (arith, a, e)) in
      let high : c * (unit * k) < n * k + above * k + s = cross (c * (unit * k)) (n * k + above * k) (c * unit) (n + above) s k 1 K (omega arith) S (omega (arith, i.high)) (omega (arith, e)) (omega (arith, b)) in
      record { low = omega (arith, low); high = omega (arith, high) }

  narrower : (c : ℕ) → IsInside (n * k) (unit * k) (below * k + s) (above * k + s) c → IsInside n unit (below + s) (above + s) c
  narrower c i =
      let e = far c in
      let a : (c * unit + below) * k ≡ c * unit * k + below * k = omega arith in
      let b : (n + above) * k ≡ n * k + above * k = omega arith in
      let low : n < c * unit + below + s = cross n (c * unit + below) (n * k) (c * (unit * k) + below * k) s 1 k (omega arith) K S (omega (arith, i.low)) (omega arith) (omega (arith, a, e)) in
      let high : c * unit < n + above + s = cross (c * unit) (n + above) (c * (unit * k)) (n * k + above * k) s 1 k (omega arith) K S (omega (arith, i.high)) (omega (arith, e)) (omega (arith, b)) in
      record { low = omega (arith, low); high = omega (arith, high) }

  off : (c : ℕ) → distance (n * k) (c * (unit * k)) ≡ distance n (c * unit) * k
  off c = ap (λ x. distance (n * k) x) (far c) ∙ sym (distance_scaled n (c * unit) k)

  pub choice_scaled : (count : ℕ) (tens : Bool) → IsChoice n unit (below + s) (above + s) count tens → IsChoice (n * k) (unit * k) (below * k + s) (above * k + s) count tens
  choice_scaled count tens c = record {
    inside = wider count c.inside;
    tenfold = c.tenfold;
    few = λ e other i. c.few e other (narrower other i);
    only = λ e other i z. c.only e other (narrower other i) z;
    near = λ e other i. let m : distance n (count * unit) * k ≤ distance n (other * unit) * k = mul-le-mul_right k (c.near e other (narrower other i)) in omega (arith, m, off count, off other);
    greater = λ e other i g. let m : distance n (count * unit) * k < distance n (other * unit) * k = mul-lt-mul_of_pos_right (c.greater e other (narrower other i) g) K in omega (arith, m, off count, off other);
  }

-- ---- the choice in 128 bits

module _ (m power down scale count : ℕ) (tens : Bool) (is_down : power + down ≡ 1074) where
  abbrev k : ℕ
  k = 2 ^ power

  unit_is : 4 * 2 ^ down * k ≡ units_up 0
  unit_is =
      let p : 2 ^ down * k ≡ 2 ^ 1074 = sym (pow-add 2 down power) ∙ ap (λ x. 2 ^ x) (let e : down + power ≡ 1074 = omega (arith, is_down) in e) in
      mul_assoc 4 (2 ^ down) k ∙ ap (λ x. 4 * x) p ∙ omega arith

  step_is : 10 ^ scale * k ≡ units_down power scale
  step_is = mul_comm (10 ^ scale) k

  pub wide_choice : IsChoice (m * 4 * 10 ^ scale) (4 * 2 ^ down) (2 * 10 ^ scale + slack m) (2 * 10 ^ scale + slack m) count tens
      → IsChoice (4 * (m * units_down power scale)) (units_up 0) (2 * units_down power scale + slack m) (2 * units_down power scale + slack m) count tens
  wide_choice c =
      let n_is : m * 4 * 10 ^ scale * k ≡ 4 * (m * units_down power scale) = (let e : m * 4 * 10 ^ scale * k ≡ 4 * (m * (10 ^ scale * k)) = omega arith in e) ∙ ap (λ x. 4 * (m * x)) step_is in
      let b_is : 2 * 10 ^ scale * k ≡ 2 * units_down power scale = mul_assoc 2 (10 ^ scale) k ∙ ap (λ x. 2 * x) step_is in
      subst (λ x. IsChoice (4 * (m * units_down power scale)) (units_up 0) (x + slack m) (x + slack m) count tens) b_is
      (subst (λ x. IsChoice (4 * (m * units_down power scale)) x (2 * 10 ^ scale * k + slack m) (2 * 10 ^ scale * k + slack m) count tens) unit_is
      (subst (λ x. IsChoice x (4 * 2 ^ down * k) (2 * 10 ^ scale * k + slack m) (2 * 10 ^ scale * k + slack m) count tens) n_is
      (choice_scaled (m * 4 * 10 ^ scale) (4 * 2 ^ down) (2 * 10 ^ scale) (2 * 10 ^ scale) (slack m) k (slack-le m) (pow_pos power) count tens c)))

  pub short_scale : 1005 ≤ power → 2 ^ down < 10 ^ scale → 10 ^ scale < 10 * 2 ^ down → scale ≤ 21 → IsScale power 2 0 scale
  short_scale least finer close small =
      let a : 2 ^ down * k < 10 ^ scale * k = mul-lt-mul_of_pos_right finer (pow_pos power) in
      let b : 10 ^ scale * k < 10 * 2 ^ down * k = mul-lt-mul_of_pos_right close (pow_pos power) in
      record {
        finer = omega (arith, a, unit_is, step_is);
        least = omega (arith, b, unit_is, step_is);
        up_small = omega arith;
        down_small = omega (arith, small);
        plain = inl refl;
        least_floats = λ e. absurd (not_least e);
      }
    where
      not_least : power ≡ 0 ⊎ power ≡ 925 → ⊥
      not_least (inl e) = omega (arith, e, least)
      not_least (inr e) = omega (arith, e, least)
