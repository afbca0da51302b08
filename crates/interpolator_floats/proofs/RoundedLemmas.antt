-- A float rounded in units of which it has more digits.
use Rattle.std.proofs.Common.{◌≡◌, ℕ, ◌<◌, ◌≤◌, ◌-◌, ◌+◌, ◌*◌, ◌/◌, ◌^◌, sym, ap, ◌∙◌, arith, subst, pow-add, mul_assoc}
use Rattle.std.proofs.Math.Nat.{div-lt_iff_lt-mul, le-div_iff_mul-le, mul-le-mul, mul-le-mul_right, mul-lt-mul_of_pos_right, mul-pos, mul_right_comm, pow-le-pow_right}
use native.Mathlib.Nat.{lt_of_not-le, not-le_of_lt}
use Rattle.interpolator_digits.specs.Exponent.{nearest}
use Rattle.interpolator_digits.proofs.ExponentLemmas.{pow_some}
use Rattle.interpolator_floats.proofs.NearestLemmas.{nearest_same}
use Rattle.interpolator_floats.proofs.UnitLemmas.{unit_some}
use Rattle.interpolator_floats.specs.ExponentTexts.{IsRounded}
use Rattle.interpolator_floats.specs.Shortest.{IsScale, units_down, units_up}

-- bounds of a quotient, as bounds of what is divided
pub count_least : (above unit count last : ℕ) → 0 < unit → count ≡ above / unit → 10 ^ last ≤ count → 10 ^ last * unit ≤ above
count_least above unit count last some is low = (le-div_iff_mul-le some).0 (subst (λ x. 10 ^ last ≤ x) is low)

pub count_most : (above unit count last : ℕ) → 0 < unit → count ≡ above / unit → count < 10 ^ (last + 1) → above < 10 ^ (last + 1) * unit
count_most above unit count last some is high = (div-lt_iff_lt-mul some).0 (subst (λ x. x < 10 ^ (last + 1)) is high)

-- quarters of a step, times so many tens as there are more digits, are few
pub quarters_fit : (m power up down last places : ℕ) → IsScale power 2 up down → 4 * m * units_down power down < 10 ^ (last + 1) * units_up up
    → last ≤ places → places ≤ 17 → 4 * m * 10 ^ (places - last) < 2 ^ 62
quarters_fit m power up down last places scale high more few =
    let u = units_up up in
    let a : m * u ≤ m * ((2 + 2) * units_down power down) = Rattle.std.proofs.Math.Nat.mul-le-mul_left m scale.finer in
    let b : m * u < 10 ^ (last + 1) * u = omega (arith, a, high) in
    let c : m < 10 ^ (last + 1) = lt_of_not-le (λ (g : 10 ^ (last + 1) ≤ m). not-le_of_lt b (mul-le-mul_right u g)) in
    let d : m * 10 ^ (places - last) < 10 ^ (last + 1) * 10 ^ (places - last) = mul-lt-mul_of_pos_right c (pow_some (places - last)) in
    let sum : last + 1 + (places - last) ≡ places + 1 = omega (arith, more) in
    let e : 10 ^ (places + 1) ≡ 10 ^ (last + 1) * 10 ^ (places - last) = ap (λ k. 10 ^ k) (sym sum) ∙ pow-add 10 (last + 1) (places - last) in
    let f : 10 ^ (places + 1) ≤ 10 ^ 18 = pow-le-pow_right (omega arith) {i = places + 1} {j = 18} (omega (arith, few)) in
    omega (arith, d, e, f)

-- so many units of a scale, in units that are 10 ^ k times smaller
module _ (m power up down k lower_up lower_down : ℕ) (is_up : lower_up ≡ up - k) (is_down : lower_down ≡ down + (k - up)) where
  abbrev above : ℕ
  above = 4 * m * units_down power down

  abbrev lower : ℕ
  lower = 4 * m * units_down power lower_down

  abbrev unit : ℕ
  unit = units_up up

  abbrev lower_unit : ℕ
  lower_unit = units_up lower_up

  same : above * 10 ^ k * lower_unit ≡ lower * unit
  same =
      let a = 10 ^ (k - up) in
      let b = 10 ^ (up - k) in
      let sum : k + (up - k) ≡ k - up + up = omega arith in
      let tens : 10 ^ k * b ≡ a * 10 ^ up = sym (pow-add 10 k (up - k)) ∙ ap (λ e. 10 ^ e) sum ∙ pow-add 10 (k - up) up in
      let wide : 10 ^ lower_down ≡ 10 ^ down * a = ap (λ e. 10 ^ e) is_down ∙ pow-add 10 down (k - up) in
      let small : 10 ^ lower_up ≡ b = ap (λ e. 10 ^ e) is_up in
      (λ i. 4 * m * (2 ^ power * 10 ^ down) * 10 ^ k * (4 * (small i * 2 ^ 1074)))
      ∙ shape m (2 ^ power) (10 ^ down) (10 ^ k) b (2 ^ 1074)
      ∙ ap (λ x. 16 * m * 2 ^ power * 10 ^ down * 2 ^ 1074 * x) tens
      ∙ sym (back m (2 ^ power) (10 ^ down) a (10 ^ up) (2 ^ 1074))
      ∙ (λ i. 4 * m * (2 ^ power * sym wide i) * (4 * (10 ^ up * 2 ^ 1074)))
    where
      shape : (m p t k b w : ℕ) → 4 * m * (p * t) * k * (4 * (b * w)) ≡ 16 * m * p * t * w * (k * b)
      shape m p t k b w = omega arith

      back : (m p t a u w : ℕ) → 4 * m * (p * (t * a)) * (4 * (u * w)) ≡ 16 * m * p * t * w * (a * u)
      back m p t a u w = omega arith

  raised : (last : ℕ) → 10 ^ (last + k) * lower_unit * unit ≡ 10 ^ last * unit * (10 ^ k * lower_unit)
  raised last = ap (λ x. x * lower_unit * unit) (pow-add 10 last k) ∙ shape (10 ^ last) (10 ^ k) lower_unit unit
    where
      shape : (l k w u : ℕ) → l * k * w * u ≡ l * u * (k * w)
      shape l k w u = omega arith

  tens_some : 0 < 10 ^ k * lower_unit
  tens_some = mul-pos (pow_some k) (unit_some lower_up)

  lower_is : above * (10 ^ k * lower_unit) ≡ lower * unit
  lower_is = sym (mul_assoc above (10 ^ k) lower_unit) ∙ same

  pub lower_least : (last : ℕ) → 10 ^ last * unit ≤ above → 10 ^ (last + k) * lower_unit ≤ lower
  lower_least last h =
      let a : 10 ^ last * unit * (10 ^ k * lower_unit) ≤ above * (10 ^ k * lower_unit) = mul-le-mul_right (10 ^ k * lower_unit) h in
      let b : 10 ^ (last + k) * lower_unit * unit ≤ lower * unit = omega (arith, a, raised last, lower_is) in
      cancel (10 ^ (last + k) * lower_unit) lower unit (unit_some up) b
    where
      cancel : (a b u : ℕ) → 0 < u → a * u ≤ b * u → a ≤ b
      cancel a b u some h =
          let less : a < b + 1 = lt_of_not-le (λ (g : b + 1 ≤ a).
          let c : (b + 1) * u ≤ a * u = mul-le-mul_right u g in
          omega (arith, c, h, some)) in
          omega (arith, less)

  pub lower_most : (last : ℕ) → above < 10 ^ (last + 1) * unit → lower < 10 ^ (last + k + 1) * lower_unit
  lower_most last h =
      let a : above * (10 ^ k * lower_unit) < 10 ^ (last + 1) * unit * (10 ^ k * lower_unit) = mul-lt-mul_of_pos_right h tens_some in
      let sum : last + 1 + k ≡ last + k + 1 = omega arith in
      let e : 10 ^ (last + k + 1) * lower_unit * unit ≡ 10 ^ (last + 1) * unit * (10 ^ k * lower_unit) =
      ap (λ x. 10 ^ x * lower_unit * unit) (sym sum) ∙ raised (last + 1) in
      let b : lower * unit < 10 ^ (last + k + 1) * lower_unit * unit = omega (arith, a, e, lower_is) in
      lt_of_not-le (λ (g : 10 ^ (last + k + 1) * lower_unit ≤ lower). not-le_of_lt b (mul-le-mul_right unit g))

  -- what is nearest in these units is nearest in the others, of as many tens
  pub lower_near : (x count : ℕ) → x ≡ 4 * m * 10 ^ k → count ≡ nearest (x * units_down power down) unit → count ≡ nearest lower (lower_unit * 10 ^ (k - k))
  lower_near x count is near =
      let none : k - k ≡ 0 = omega arith in
      let one : lower_unit * 10 ^ (k - k) ≡ lower_unit = ap (λ e. lower_unit * 10 ^ e) none ∙ omega arith in
      let cross : x * units_down power down * lower_unit ≡ lower * unit =
      ap (λ y. y * units_down power down * lower_unit) is ∙ ap (λ y. y * lower_unit) (mul_right_comm (4 * m) (10 ^ k) (units_down power down)) ∙ same in
      near ∙ nearest_same (x * units_down power down) unit lower lower_unit (unit_some up) (unit_some lower_up) cross ∙ ap (nearest lower) (sym one)

-- by as many digits as are shown
pub quick_rounded : (m power up down last places lower_up lower_down x count : ℕ) → lower_up ≡ up - (places - last) → lower_down ≡ down + (places - last - up)
    → 10 ^ last * units_up up ≤ 4 * m * units_down power down → 4 * m * units_down power down < 10 ^ (last + 1) * units_up up → last ≤ places
    → x ≡ 4 * m * 10 ^ (places - last) → count ≡ nearest (x * units_down power down) (units_up up)
    → IsRounded m power places count places lower_up lower_down
quick_rounded m power up down last places lower_up lower_down x count is_up is_down low high more is near =
    let k = places - last in
    let sum : last + k ≡ places = omega (arith, more) in
    let none : k - k ≡ places - places = omega arith in
    record {
      fewer = omega arith;
      least = subst (λ l. 10 ^ l * units_up lower_up ≤ 4 * m * units_down power lower_down) sum (lower_least m power up down k lower_up lower_down is_up is_down last low);
      most = subst (λ l. 4 * m * units_down power lower_down < 10 ^ (l + 1) * units_up lower_up) sum (lower_most m power up down k lower_up lower_down is_up is_down last high);
      near = lower_near m power up down k lower_up lower_down is_up is_down x count is near ∙ ap (λ e. nearest (4 * m * units_down power lower_down) (units_up lower_up * 10 ^ e)) none;
    }

-- by 19 digits
module _ (m power up down last places lower_up lower_down : ℕ) (is_up : lower_up ≡ up - (18 - last)) (is_down : lower_down ≡ down + (18 - last - up))
    (low : 10 ^ last * units_up up ≤ 4 * m * units_down power down) (high : 4 * m * units_down power down < 10 ^ (last + 1) * units_up up) (more : last ≤ places) (few : places ≤ 17) where
  sum : last + (18 - last) ≡ 18
  sum = omega (arith, more, few)

  least : 10 ^ 18 * units_up lower_up ≤ 4 * m * units_down power lower_down
  least = subst (λ l. 10 ^ l * units_up lower_up ≤ 4 * m * units_down power lower_down) sum (lower_least m power up down (18 - last) lower_up lower_down is_up is_down last low)

  most : 4 * m * units_down power lower_down < 10 ^ (18 + 1) * units_up lower_up
  most = subst (λ l. 4 * m * units_down power lower_down < 10 ^ (l + 1) * units_up lower_up) sum (lower_most m power up down (18 - last) lower_up lower_down is_up is_down last high)

  pub long_count : 4 * m * units_down power lower_down / units_up lower_up < 2 ^ 64
  long_count =
      let a : 4 * m * units_down power lower_down / units_up lower_up < 10 ^ (18 + 1) = (div-lt_iff_lt-mul (unit_some lower_up)).1 most in
      omega (arith, a)

  pub long_rounded : (count : ℕ) → count ≡ nearest (4 * m * units_down power lower_down) (units_up lower_up * 10 ^ (18 - places))
      → IsRounded m power places count 18 lower_up lower_down
  long_rounded count near = record { fewer = omega (arith, few); least = least; most = most; near = near }
