-- Which decimals read as a float: those inside its bounds, and no others, in each format.
use Rattle.std.proofs.Common.{◌≡◌, ◌⊎◌, ℕ, ◌<◌, ◌≤◌, ◌-◌, ◌+◌, ◌*◌, ◌/◌, ◌%◌, ◌^◌, if◌then◌else◌}
use Rattle.std.proofs.Common.{◌==◌, sym, ap, ◌∙◌, arith, eq-zero-or-pos, inl, inr, subst, pow-add}
use Rattle.std.proofs.Common.{mul_assoc}
use Rattle.std.proofs.Math.Nat.{mul_comm, mul-le-mul_right, mul-le-mul_left}
use Rattle.std.proofs.Math.Nat.{mul-lt-mul_of_pos_right, div-lt_iff_lt-mul, le-div_iff_mul-le}
use Rattle.std.proofs.Math.Nat.{lt_of_lt_of_le, le_trans, mul-pos, pow-le-pow_right}
use native.Mathlib.Nat.{eq_of_mul-eq-mul_right}
use lib.{Pow.pow_pos, Ieee.low, Ieee.size, Ieee.Digits.size-lt, Ieee.Digits.size_reaches}
use lib.{Ieee.Fits.nearest-le, Ieee.Nearest.closest, Ieee.Nearest.nearest-ge, Ieee.Order.drop}
use Prim.Native.Nat.{compare}
use Rattle.interpolator_floats.proofs.ReadLemmas.{closest_inside, closest_only, slack-le}

-- one more if a mantissa is even
abbrev pub slack : ℕ → ℕ
slack m = if m % 2 == 0 then 1 else 0

pub slack_one : (m : ℕ) → m % 2 ≡ 0 → slack m ≡ 1
slack_one m h = grind (arith, h)

-- the digits that are dropped leave no more than the format keeps
pub dropped_most : (p n d : ℕ) → 0 < d → n < 2 ^ (p + drop p n d) * d
dropped_most p n d D =
    let most : 2 ^ size (n / d) ≤ 2 ^ (p + drop p n d) = pow-le-pow_right (omega arith) (omega arith) in
    (div-lt_iff_lt-mul D).0 (lt_of_lt_of_le (size-lt (n / d)) most)

-- and no fewer, if any are
pub dropped_least : (p n d : ℕ) → 0 < p → 0 < d → 0 < drop p n d → 2 ^ (p - 1 + drop p n d) * d ≤ n
dropped_least p n d P D h = (le-div_iff_mul-le D).0 (size_reaches (n / d) (p - 1 + drop p n d) (omega arith))

-- a float of m * 2 ^ k steps in a format of p digits, and a decimal of n / d steps, of which z digits are dropped
module _ (p m k n d z : ℕ) (two : 2 ≤ p) (some : 0 < m) (short : m < 2 ^ p) (normal : 0 < k → 2 ^ (p - 1) ≤ m) (D : 0 < d)
    (most : n < 2 ^ (p + z) * d) (least : 0 < z → 2 ^ (p - 1 + z) * d ≤ n) where
  abbrev step : ℕ
  step = 2 ^ k * d

  step_some : 0 < step
  step_some = mul-pos (pow_pos k) D

  half_power : 2 ^ p ≡ 2 * 2 ^ (p - 1)
  half_power = let e : p ≡ 1 + (p - 1) = omega (arith, two) in ap (λ x. 2 ^ x) e ∙ pow-add 2 1 (p - 1)

  even_power : 2 ^ (p - 1) % 2 ≡ 0
  even_power =
      let e : p - 1 ≡ 1 + (p - 2) = omega (arith, two) in
      let s : 2 ^ (p - 1) ≡ 2 * 2 ^ (p - 2) = ap (λ x. 2 ^ x) e ∙ pow-add 2 1 (p - 2) in omega (arith, s)

  -- what is dropped is no more than the step if the decimal lies below the float's bound above
  not_over : 4 * n < 4 * (m * step) + 2 * step + slack m → ¬ (k < z)
  not_over high g =
      let up : 2 ^ (p + k) ≤ 2 ^ (p - 1 + z) = pow-le-pow_right (omega arith) (omega (arith, g, two)) in
      let wide : 2 ^ (p + k) * d ≤ 2 ^ (p - 1 + z) * d = mul-le-mul_right d up in
      let all : 2 ^ (p + k) * d ≡ 2 ^ p * step = ap (λ x. x * d) (pow-add 2 p k) ∙ mul_assoc (2 ^ p) (2 ^ k) d in
      let top : (m + 1) * step ≤ 2 ^ p * step = mul-le-mul_right step (omega (arith, short)) in
      omega (arith, wide, all, top, high, slack-le m, step_some, least (omega (arith, g)))

  -- and one digit less at most if it lies above the bound below, only next to a power of two
  pub just_under : z < k → 4 * (m * step) < 4 * n + 2 * step + slack m → (z + 1 ≡ k) × (m ≡ 2 ^ (p - 1)) × (n < m * step)
  just_under g low =
      let M = normal (omega (arith, g)) in
      let base : 2 ^ (p - 1) * step ≤ m * step = mul-le-mul_right step M in
      let at : (e : ℕ) → p + z ≤ e → n < 2 ^ e * d = λ e h. lt_of_lt_of_le most (mul-le-mul_right d (pow-le-pow_right (omega arith) h)) in
      let all : 2 ^ (p - 1 + k) * d ≡ 2 ^ (p - 1) * step = ap (λ x. x * d) (pow-add 2 (p - 1) k) ∙ mul_assoc (2 ^ (p - 1)) (2 ^ k) d in
      let below : n < 2 ^ (p - 1) * step = omega (arith, at (p - 1 + k) (omega (arith, g, two)), all) in
      let exact : m ≡ 2 ^ (p - 1) = elim (eq-zero-or-pos (m - 2 ^ (p - 1))) [
        | inl e ↦ omega (arith, e, M)
        | inr e ↦
            let more : (2 ^ (p - 1) + 1) * step ≤ m * step = mul-le-mul_right step (omega (arith, e)) in
            absurd (omega (arith, more, below, low, slack-le m, step_some))
      ] in
      let one : z + 1 ≡ k = elim (eq-zero-or-pos (k - z - 1)) [
        | inl e ↦ omega (arith, e, g)
        | inr e ↦
            let lower : n < 2 ^ (p - 1 + k - 1) * d = at (p - 1 + k - 1) (omega (arith, e)) in
            let half : 2 ^ (p - 1 + k) ≡ 2 * 2 ^ (p - 1 + k - 1) = (let s : p - 1 + k ≡ 1 + (p - 1 + k - 1) = omega (arith, two) in ap (λ x. 2 ^ x) s ∙ pow-add 2 1 (p - 1 + k - 1)) in
            let less : 2 * (2 ^ (p - 1 + k - 1) * d) ≡ 2 ^ (p - 1) * step = sym (mul_assoc 2 (2 ^ (p - 1 + k - 1)) d) ∙ ap (λ x. x * d) (sym half) ∙ all in
            let big : 2 * step ≤ 2 ^ (p - 1) * step = mul-le-mul_right step (even_least (p - 1) (omega (arith, two))) in
            absurd (omega (arith, lower, less, base, low, slack-le m, step_some, big))
      ] in
      (one, exact, omega (arith, below, base))
    where
      even_least : (j : ℕ) → 1 ≤ j → 2 ≤ 2 ^ j
      even_least j h = let q : 2 ^ 1 ≤ 2 ^ j = pow-le-pow_right (omega arith) h in omega (arith, q)

  -- inside the bounds, the lower of which is half as far next to a power of two
  module _ (half : ℕ) (halved : half ≤ 2) (edge : 0 < k → m ≡ 2 ^ (p - 1) → half ≡ 1) (plain : half ≡ 2 ⊎ (half ≡ 1) × (0 < k) × (m ≡ 2 ^ (p - 1))) where
    pub inside_reads : 4 * (m * step) < 4 * n + half * step + slack m → 4 * n < 4 * (m * step) + 2 * step + slack m
        → closest n (d * 2 ^ z) * 2 ^ z ≡ m * 2 ^ k
    inside_reads low high =
        let two_low : 4 * (m * step) < 4 * n + 2 * step + slack m = omega (arith, low, mul-le-mul_right step halved) in
        elim (eq-zero-or-pos (k - z)) [
          | inl e ↦
              let same : z ≡ k = omega (arith, e, not_over high) in
              let unit : d * 2 ^ z ≡ step = ap (λ x. d * 2 ^ x) same ∙ mul_comm d (2 ^ k) in
              let c : closest n step ≡ m = closest_inside n step m step_some some (halved_low two_low) (halved_high high) in
              (λ i. (ap (closest n) unit ∙ c) i * 2 ^ same i)
          | inr g ↦
              let just = just_under (omega (arith, g)) two_low in
              let one = edge (omega (arith, g)) just.1 in
              let next : k ≡ z + 1 = sym just.0 in
              let unit : step ≡ 2 * (d * 2 ^ z) = twice_step next in
              let h = d * 2 ^ z in
              let s = slack_one m (ap (λ x. x % 2) just.1 ∙ even_power) in
              let low1 : 4 * (m * step) < 4 * n + step + 1 = omega (arith, low, ap (λ x. x * step) one, s) in
              let double : m * step ≡ 2 * m * h = ap (λ x. m * x) unit ∙ omega arith in
              let t : slack (2 * m) ≡ 1 = slack_one (2 * m) (omega arith) in
              let c : closest n h ≡ 2 * m = closest_inside n h (2 * m) (mul-pos D (pow_pos z)) (omega (arith, some)) (omega (arith, low1, double, unit, t)) (omega (arith, just.2, double, t)) in
              let pow : 2 ^ k ≡ 2 * 2 ^ z = ap (λ x. 2 ^ x) next ∙ pow-add 2 z 1 ∙ omega arith in
              ap (λ x. x * 2 ^ z) c ∙ (let w : 2 * m * 2 ^ z ≡ m * (2 * 2 ^ z) = omega arith in w) ∙ ap (λ x. m * x) (sym pow)
        ]
      where
        halved_low : 4 * (m * step) < 4 * n + 2 * step + slack m → 2 * (m * step) < 2 * n + step + slack m
        halved_low h = omega (arith, h, slack-le m)

        halved_high : 4 * n < 4 * (m * step) + 2 * step + slack m → 2 * n < 2 * (m * step) + step + slack m
        halved_high h = omega (arith, h, slack-le m)

        twice_step : k ≡ z + 1 → step ≡ 2 * (d * 2 ^ z)
        twice_step e = ap (λ x. 2 ^ x * d) e ∙ ap (λ x. x * d) (pow-add 2 z 1) ∙ omega arith

    pub reads_inside : closest n (d * 2 ^ z) * 2 ^ z ≡ m * 2 ^ k
        → (4 * (m * step) < 4 * n + half * step + slack m) × (4 * n < 4 * (m * step) + 2 * step + slack m)
    reads_inside e = elim (eq-zero-or-pos (k - z)) [
      | inl a ↦ elim (eq-zero-or-pos (z - k)) [
        | inl b ↦ at_step (omega (arith, a, b)) e
        | inr b ↦ absurd (above (omega (arith, b)) e)
      ]
      | inr a ↦ below (omega (arith, a)) e
    ]
      where
        at_step : z ≡ k → closest n (d * 2 ^ z) * 2 ^ z ≡ m * 2 ^ k → (4 * (m * step) < 4 * n + half * step + slack m) × (4 * n < 4 * (m * step) + 2 * step + slack m)
        at_step same e =
            let unit : d * 2 ^ z ≡ step = ap (λ x. d * 2 ^ x) same ∙ mul_comm d (2 ^ k) in
            let c : closest n step ≡ m = eq_of_mul-eq-mul_right (2 ^ k) (pow_pos k) (closest n step) m ((λ i. closest n (sym unit i) * 2 ^ sym same i) ∙ e) in
            let both = closest_only n step m step_some c in
            let high : 4 * n < 4 * (m * step) + 2 * step + slack m = omega (arith, both.1, slack-le m) in
            elim plain [
              | inl w ↦ (omega (arith, both.0, slack-le m, ap (λ x. x * step) w), high)
              | inr w ↦
                  let up : 2 ^ (p - 1 + z) * d ≤ n = least (omega (arith, same, w.1)) in
                  let base : 2 ^ (p - 1 + z) * d ≡ m * step = ap (λ x. 2 ^ (p - 1 + x) * d) same ∙ ap (λ x. x * d) (pow-add 2 (p - 1) k) ∙ mul_assoc (2 ^ (p - 1)) (2 ^ k) d ∙ ap (λ x. x * step) (sym w.2) in
                  (omega (arith, up, base, step_some, ap (λ x. x * step) w.0), high)
            ]

        count_most : closest n (d * 2 ^ z) ≤ 2 ^ p
        count_most =
            let q : n / (d * 2 ^ z) < 2 ^ p = (div-lt_iff_lt-mul (mul-pos D (pow_pos z))).1 (omega (arith, most, ap (λ x. x * d) (pow-add 2 p z), shape)) in
            le_trans (nearest-le (n / (d * 2 ^ z)) (compare (n % (d * 2 ^ z) * 2) (d * 2 ^ z))) q
          where
            shape : 2 ^ p * 2 ^ z * d ≡ 2 ^ p * (d * 2 ^ z)
            shape = omega arith

        above : k < z → closest n (d * 2 ^ z) * 2 ^ z ≡ m * 2 ^ k → ⊥
        above g e =
            let shape : 2 ^ (p - 1) * (d * 2 ^ z) ≡ 2 ^ (p - 1 + z) * d = (let w : 2 ^ (p - 1) * (d * 2 ^ z) ≡ 2 ^ (p - 1) * 2 ^ z * d = omega arith in w ∙ ap (λ x. x * d) (sym (pow-add 2 (p - 1) z))) in
            let q : 2 ^ (p - 1) ≤ n / (d * 2 ^ z) = (le-div_iff_mul-le (mul-pos D (pow_pos z))).1 (omega (arith, shape, least (omega (arith, g)))) in
            let c : 2 ^ (p - 1) ≤ closest n (d * 2 ^ z) = le_trans q (nearest-ge (n / (d * 2 ^ z)) (compare (n % (d * 2 ^ z) * 2) (d * 2 ^ z))) in
            let wide : 2 ^ (p + k) ≤ 2 ^ (p - 1 + z) = pow-le-pow_right (omega arith) (omega (arith, g, two)) in
            let more : 2 ^ (p - 1) * 2 ^ z ≤ closest n (d * 2 ^ z) * 2 ^ z = mul-le-mul_right (2 ^ z) c in
            let less : m * 2 ^ k < 2 ^ p * 2 ^ k = mul-lt-mul_of_pos_right short (pow_pos k) in
            omega (arith, e, wide, more, less, pow-add 2 p k, pow-add 2 (p - 1) z)

        below : z < k → closest n (d * 2 ^ z) * 2 ^ z ≡ m * 2 ^ k → (4 * (m * step) < 4 * n + half * step + slack m) × (4 * n < 4 * (m * step) + 2 * step + slack m)
        below g e =
            let j = k - z - 1 in
            let sum : k ≡ z + 1 + j = omega (arith, g) in
            let M = normal (omega (arith, g)) in
            let h = d * 2 ^ z in
            let split : m * 2 ^ k ≡ m * (2 * 2 ^ j) * 2 ^ z = ap (λ x. m * x) (ap (λ x. 2 ^ x) sum ∙ pow-add 2 (z + 1) j ∙ ap (λ x. x * 2 ^ j) (pow-add 2 z 1)) ∙ omega arith in
            let c : closest n h ≡ m * (2 * 2 ^ j) = eq_of_mul-eq-mul_right (2 ^ z) (pow_pos z) (closest n h) (m * (2 * 2 ^ j)) (e ∙ split) in
            let one : 2 ^ j ≡ 1 = only_one j (2 ^ (p - 1)) (pow_pos (p - 1)) (subst (λ x. x ≤ 2 ^ p) c count_most) M in
            let c2 : closest n h ≡ 2 * m = c ∙ ap (λ x. m * (2 * x)) one ∙ omega arith in
            let exact : m ≡ 2 ^ (p - 1) = omega (arith, subst (λ x. x ≤ 2 ^ p) c2 count_most, half_power, M) in
            let nil : j ≡ 0 = no_power j one in
            let next : k ≡ z + 1 = omega (arith, sum, nil) in
            let both = closest_only n h (2 * m) (mul-pos D (pow_pos z)) c2 in
            let unit : step ≡ 2 * h = ap (λ x. 2 ^ x * d) next ∙ ap (λ x. x * d) (pow-add 2 z 1) ∙ omega arith in
            let double : m * step ≡ 2 * m * h = ap (λ x. m * x) unit ∙ omega arith in
            let s = slack_one m (ap (λ x. x % 2) exact ∙ even_power) in
            let t : slack (2 * m) ≡ 1 = slack_one (2 * m) (omega arith) in
            let some_half : step ≤ half * step = (let hp : 1 ≤ half = at_least plain in omega (arith, mul-le-mul_right step hp)) in
            let up : n < m * step = (let shape : 2 ^ (p + z) * d ≡ m * step = ap (λ x. 2 ^ x * d) (let w : p + z ≡ p - 1 + k = omega (arith, next, two) in w) ∙ ap (λ x. x * d) (pow-add 2 (p - 1) k) ∙ mul_assoc (2 ^ (p - 1)) (2 ^ k) d ∙ ap (λ x. x * step) (sym exact) in omega (arith, most, shape)) in
            (omega (arith, both.0, t, s, unit, double, some_half), omega (arith, up))
          where
            at_least : half ≡ 2 ⊎ (half ≡ 1) × (0 < k) × (m ≡ 2 ^ (p - 1)) → 1 ≤ half
            at_least (inl w) = omega arith
            at_least (inr w) = omega (arith, w.0)

            only_one : (j u : ℕ) → 0 < u → m * (2 * 2 ^ j) ≤ 2 ^ p → 2 ^ (p - 1) ≤ m → 2 ^ j ≡ 1
            only_one j u U h M =
                let b : 2 ^ (p - 1) * (2 * 2 ^ j) ≤ m * (2 * 2 ^ j) = mul-le-mul_right (2 * 2 ^ j) M in
                let q : 2 ^ (p - 1) * 2 ^ j ≤ 2 ^ (p - 1) * 1 = omega (arith, b, h, half_power) in
                elim (eq-zero-or-pos (2 ^ j - 1)) [
                  | inl e ↦ omega (arith, e, pow_pos j)
                  | inr e ↦
                      let w : 2 ^ (p - 1) * 2 ≤ 2 ^ (p - 1) * 2 ^ j = mul-le-mul_left (2 ^ (p - 1)) (omega (arith, e)) in
                      absurd (omega (arith, w, q, pow_pos (p - 1)))
                ]

            no_power : (j : ℕ) → 2 ^ j ≡ 1 → j ≡ 0
            no_power j h = elim (eq-zero-or-pos j) [
              | inl e ↦ e
              | inr e ↦ let w : 2 ^ 1 ≤ 2 ^ j = pow-le-pow_right (omega arith) e in absurd (omega (arith, w, h))
            ]
