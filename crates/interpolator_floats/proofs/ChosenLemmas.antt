-- The shortest digits by computation are those of a choice at a scale.
use Rattle.std.proofs.Common.{◌≡◌, ◌≢◌, ◌⊎◌, ◌↔◌, ℕ, zero, suc, ◌<◌, ◌≤◌, ◌-◌, ◌+◌, ◌*◌, ◌/◌, ◌%◌}
use Rattle.std.proofs.Common.{◌^◌, Bool, true, false, if◌then◌else◌, ◌==◌}
use Rattle.std.proofs.Common.{refl, sym, ap, ◌∙◌, arith, eq-zero-or-pos, inl, inr, subst, pow-add}
use Rattle.std.proofs.Common.{mul_assoc}
use Rattle.std.proofs.Math.Nat.{max-eq_left, max-eq_right, mul_comm, mul_right_comm}
use Rattle.std.proofs.Math.Nat.{mul-le-mul_right, mul-pos, mul-mod_left, div-lt_iff_lt-mul}
use Rattle.std.proofs.Math.Nat.{le-div_iff_mul-le, pow-le-pow_right}
use Rattle.std.proofs.lemmas.Bool.{le-leb, lt-leb}
use Rattle.std.specs.Prelude.{max, nat_lt, ◌&&◌}
use lib.Pow.{pow_pos}
use lib.Ieee.{Float, Format, binary32, binary64, nan, inf, fin, down, low, prec}
use lib.Ieee.Exact.{HasValue}
use lib.Ieee.Fits.{down_pos}
use lib.Ieee.Order.{drop}
use native.Mathlib.Nat.{eq_of_mul-eq-mul_right}
use Rattle.interpolator_digits.proofs.ExponentLemmas.{pow_some}
use Rattle.interpolator_floats.proofs.BoundLemmas.{dropped_least, dropped_most, slack}
use Rattle.interpolator_floats.proofs.DecideLemmas.{bounds_narrow, inside, low_choice, low_next}
use Rattle.interpolator_floats.proofs.DecideLemmas.{near_choice, near_high, near_low, near_most}
use Rattle.interpolator_floats.proofs.DecideLemmas.{slack_odd, some_count, tens_choice, within}
use Rattle.interpolator_floats.proofs.ReadLemmas.{slack-le}
use Rattle.interpolator_floats.proofs.ShortestLemmas.{value_unscaled}
use Rattle.interpolator_floats.proofs.UnitLemmas.{step_some, unit_some}
use Rattle.interpolator_floats.specs.Floats.{IsChoice}
use Rattle.interpolator_floats.specs.Shortest.{HasMantissa, IsScale, units_down, units_up}
use Rattle.interpolator_floats.specs.declared.shortest.Shortest.{Shortest}
use Rattle.interpolator_floats.specs.ShortestDigits.{IsTrimmed, chosen, chosen_at, digits_of}
use Rattle.interpolator_floats.specs.ShortestDigits.{digits_of_steps, greatest, is_fine, shortest}
use Rattle.interpolator_floats.specs.ShortestDigits.{trimmed}

pub greatest_is : (test : ℕ → Bool) (most j : ℕ) → j ≤ most → test j ≡ true → ((i : ℕ) → j < i → test i ≡ false) → greatest test most ≡ j
unfolding greatest
greatest_is test zero j h t none = omega (arith, h)
greatest_is test (suc n) j h t none = elim (eq-zero-or-pos (suc n - j)) [
  | inl z ↦
      let e : j ≡ suc n = omega (arith, z, h) in
      ap (λ b. if b then suc n else greatest test n) (ap test (sym e) ∙ t) ∙ sym e
  | inr p ↦
      ap (λ b. if b then suc n else greatest test n) (none (suc n) (omega (arith, p))) ∙ greatest_is test n j (omega (arith, p)) t none
]

-- ---- the scale

module _ (power half up down : ℕ) (scale : IsScale power half up down) where
  abbrev place : ℕ
  place = up + (324 - down)

  abbrev wide : ℕ
  wide = (half + 2) * units_down power down

  ten_up : (k : ℕ) → units_up (up + k) ≡ units_up up * 10 ^ k
  ten_up k = ap (λ x. 4 * (x * 2 ^ 1074)) (pow-add 10 up k) ∙ shape (10 ^ up) (10 ^ k) (2 ^ 1074)
    where
      shape : (u k w : ℕ) → 4 * (u * k * w) ≡ 4 * (u * w) * k
      shape u k w = omega arith

  ten_down : (half + 2) * units_down power 324 ≡ wide * 10 ^ (324 - down)
  ten_down =
      let e : 324 ≡ down + (324 - down) = omega (arith, scale.down_small) in
      ap (λ x. (half + 2) * (2 ^ power * x)) (ap (λ x. 10 ^ x) e ∙ pow-add 10 down (324 - down)) ∙ shape (half + 2) (2 ^ power) (10 ^ down) (10 ^ (324 - down))
    where
      shape : (h p d k : ℕ) → h * (p * (d * k)) ≡ h * (p * d) * k
      shape h p d k = omega arith

  fine : is_fine power half place ≡ true
  fine =
      let l : units_up up * 10 ^ (324 - down) ≤ wide * 10 ^ (324 - down) = mul-le-mul_right (10 ^ (324 - down)) scale.finer in
      le-leb _ _ (omega (arith, l, ten_up (324 - down), ten_down))

  too_wide : (i : ℕ) → place < i → is_fine power half i ≡ false
  too_wide i h =
      let k = i - place - 1 in
      let e : i ≡ up + ((324 - down) + 1 + k) = omega (arith, h) in
      let ten : 10 ^ ((324 - down) + 1 + k) ≡ 10 * 10 ^ (324 - down) * 10 ^ k = pow-add 10 ((324 - down) + 1) k ∙ ap (λ x. x * 10 ^ k) (pow-add 10 (324 - down) 1 ∙ mul_comm (10 ^ (324 - down)) 10) in
      let s : units_up i ≡ 10 * units_up up * 10 ^ (324 - down) * 10 ^ k = ap units_up e ∙ ten_up ((324 - down) + 1 + k) ∙ ap (λ x. units_up up * x) ten ∙ shape (units_up up) (10 ^ (324 - down)) (10 ^ k) in
      let a : (wide + 1) * 10 ^ (324 - down) ≤ 10 * units_up up * 10 ^ (324 - down) = mul-le-mul_right (10 ^ (324 - down)) (omega (arith, scale.least)) in
      let b : 10 * units_up up * 10 ^ (324 - down) * 1 ≤ 10 * units_up up * 10 ^ (324 - down) * 10 ^ k = Rattle.std.proofs.Math.Nat.mul-le-mul_left (10 * units_up up * 10 ^ (324 - down)) (pow_some k) in
      let c : (wide + 1) * 10 ^ (324 - down) ≡ wide * 10 ^ (324 - down) + 10 ^ (324 - down) = omega arith in
      lt-leb _ _ (omega (arith, s, a, b, c, ten_down, pow_some (324 - down)))
    where
      shape : (u t k : ℕ) → u * (10 * t * k) ≡ 10 * u * t * k
      shape u t k = omega arith

  pub place_is : greatest (is_fine power half) 640 ≡ place
  place_is = greatest_is (is_fine power half) 640 place (omega (arith, scale.up_small)) fine too_wide

-- ---- the count

one_choice : (n unit below above a b : ℕ) (s t : Bool) → IsChoice n unit below above a s → IsChoice n unit below above b t → a ≡ b
one_choice n unit below above a b true t c d = go t d
  where
    go : (t : Bool) → IsChoice n unit below above b t → a ≡ b
    go true d = d.only refl a c.inside (c.tenfold refl)
    go false d = absurd (d.few refl a c.inside (c.tenfold refl))
one_choice n unit below above a b false t c d = go t d
  where
    go : (t : Bool) → IsChoice n unit below above b t → a ≡ b
    go true d = absurd (c.few refl b d.inside (d.tenfold refl))
    go false d = elim (eq-zero-or-pos (b - a)) [
      | inr p ↦ absurd (omega (arith, c.greater refl b d.inside (omega (arith, p)), d.near refl a c.inside))
      | inl z ↦ elim (eq-zero-or-pos (a - b)) [
        | inr p ↦ absurd (omega (arith, d.greater refl a c.inside (omega (arith, p)), c.near refl b d.inside))
        | inl w ↦ omega (arith, z, w)
      ]
    ]

-- some choice of a count is made
abbrev pub Chosen : (n unit below above count : ℕ) → Type 0
Chosen n unit below above count = (tens : Bool) × IsChoice n unit below above count tens

module _ (m half d unit : ℕ) (some : 0 < m) (least : 1 ≤ half) (narrow : half ≤ 2) (even : half ≡ 1 → m % 2 ≡ 0) (D : 0 < d) (U : 0 < unit)
    (finer : unit ≤ (half + 2) * d) (wide : (half + 2) * d < 10 * unit) where
  abbrev s : ℕ
  s = slack m

  abbrev n : ℕ
  n = 4 * (m * d)

  abbrev q : ℕ
  q = 2 * n / unit

  abbrev lo : ℕ
  lo = (n - (half * d + s)) / unit + 1

  abbrev hi : ℕ
  hi = (n + (2 * d + s) - 1) / unit

  low_part : (4 * m - half) * d + half * d ≡ n
  low_part = let e : 4 * m - half + half ≡ 4 * m = omega (arith, some, narrow) in (let w : (4 * m - half) * d + half * d ≡ (4 * m - half + half) * d = omega arith in w) ∙ ap (λ x. x * d) e ∙ omega arith

  -- both bounds lie above zero
  below_fits : half * d + s ≤ n
  below_fits =
      let a : 1 * d ≤ m * d = mul-le-mul_right d some in
      let b : half * d ≤ 2 * d = mul-le-mul_right d narrow in omega (arith, a, b, D, slack-le m)

  first : (count : ℕ) → (lo ≤ count) ↔ ((4 * m - half) * d < count * unit + s)
  first count = (
    λ h. let r : (n - (half * d + s)) / unit < count = omega (arith, h) in omega (arith, (div-lt_iff_lt-mul U).0 r, low_part, below_fits),
    λ h. let r : (n - (half * d + s)) / unit < count = (div-lt_iff_lt-mul U).1 (omega (arith, h, low_part, below_fits)) in omega (arith, r),
  )

  last : (count : ℕ) → (count ≤ hi) ↔ (count * unit < (4 * m + 2) * d + s)
  last count =
      let e : (4 * m + 2) * d ≡ n + 2 * d = omega arith in (
        λ h. omega (arith, (le-div_iff_mul-le U).0 h, e, D),
        λ h. (le-div_iff_mul-le U).1 (omega (arith, h, e, D)),
      )

  twice : 8 * m * d / unit ≡ q
  twice = let e : 8 * m * d ≡ 2 * n = omega arith in ap (λ x. x / unit) e

  pub is_chosen : Chosen n unit (half * d + s) (2 * d + s) (chosen n unit (half * d + s) (2 * d + s))
  is_chosen =
      let odd = slack_odd m half least narrow even in
      let bounds = bounds_narrow m half d unit s q lo hi some (slack-le m) least narrow finer wide odd twice first last in
      let w = within m half d unit s q lo hi some (slack-le m) least narrow finer wide odd twice first last in
      let i = inside m half d unit s q lo hi some (slack-le m) least narrow finer wide odd twice first last in
      let nl = near_low m half d unit s q lo hi some (slack-le m) least narrow finer wide odd twice first last in
      let nh = near_high m half d unit s q lo hi some (slack-le m) least narrow finer wide odd twice first last in
      let most = near_most m half d unit s q lo hi some (slack-le m) least narrow finer wide odd twice first last in
      let next = low_next m half d unit s q lo hi some (slack-le m) least narrow finer wide odd twice first last in
      let between = some_count m half d unit s q lo hi some (slack-le m) least narrow finer wide odd twice first last in
      let near = (q + 1) / 2 in
      let B = half * d + s in
      let A = 2 * d + s in
      elim (eq-zero-or-pos (lo - (hi - hi % 10))) [
        | inl z ↦
            let h : lo ≤ hi - hi % 10 = omega (arith, z) in
            subst (λ b. Chosen n unit B A (if b then hi - hi % 10 else max lo near)) (sym (le-leb _ _ h))
            (true, tens_choice n unit B A lo hi near U bounds w i nl nh most next between h)
        | inr p ↦
            let h : ¬ (lo ≤ hi - hi % 10) = λ l. omega (arith, l, p) in
            subst (λ b. Chosen n unit B A (if b then hi - hi % 10 else max lo near)) (sym (lt-leb _ _ (omega (arith, p))))
            (elim (eq-zero-or-pos (lo - near)) [
              | inl z ↦
                  subst (Chosen n unit B A) (sym (max-eq_right (omega (arith, z))))
                  (false, near_choice n unit B A lo hi near U bounds w i nl nh most next between h (λ l. omega (arith, l, z)))
              | inr g ↦
                  subst (Chosen n unit B A) (sym (max-eq_left (omega (arith, g))))
                  (false, low_choice n unit B A lo hi near U bounds w i nl nh most next between h (omega (arith, g)))
            ])
      ]

-- ---- zeros at the end

module _ (digits zs : ℕ) (trim : digits % 10 ≢ 0) where
  abbrev shown : ℕ → Bool
  shown k = digits * 10 ^ zs % 10 ^ k == 0

  zeros_at : (k : ℕ) → k ≡ zs → shown k ≡ true
  zeros_at k e = ap (λ x. x == 0) (ap (λ x. digits * 10 ^ zs % 10 ^ x) e ∙ mul-mod_left digits (10 ^ zs)) ∙ refl

  no_more : (k : ℕ) → zs < k → shown k ≡ false
  no_more k h = elim (eq-zero-or-pos (digits * 10 ^ zs % 10 ^ k)) [
    | inr p ↦ grind (arith, p)
    | inl z ↦
        let t = k - zs - 1 in
        let e : k ≡ t + 1 + zs = omega (arith, h) in
        let f : 10 ^ k ≡ 10 ^ t * 10 * 10 ^ zs = ap (λ x. 10 ^ x) e ∙ pow-add 10 (t + 1) zs ∙ ap (λ x. x * 10 ^ zs) (pow-add 10 t 1) in
        let c = digits * 10 ^ zs / 10 ^ k in
        let g : digits * 10 ^ zs ≡ c * 10 ^ k = sym (Rattle.std.proofs.Math.Nat.div-add-mod' (digits * 10 ^ zs) (10 ^ k)) ∙ omega (arith, z) in
        let i : digits ≡ c * 10 ^ t * 10 = eq_of_mul-eq-mul_right (10 ^ zs) (pow_some zs) digits (c * 10 ^ t * 10) (g ∙ ap (λ x. c * x) f ∙ shape c (10 ^ t) (10 ^ zs)) in
        absurd (trim (omega (arith, i)))
  ]
    where
      shape : (c t z : ℕ) → c * (t * 10 * z) ≡ c * t * 10 * z
      shape c t z = omega arith

-- ---- from the code's choice

last_digit : (n unit below above count digits zs : ℕ) (tens : Bool) → IsChoice n unit below above count tens → count ≡ digits * 10 ^ zs
    → (tens ≡ false → zs ≡ 0) → (tens ≡ true → digits % 10 ≢ 0) → digits % 10 ≢ 0
last_digit n unit below above count digits zs true choice split whole trim = trim refl
last_digit n unit below above count digits zs false choice split whole trim = λ z.
    let e : count ≡ digits = split ∙ ap (λ x. digits * 10 ^ x) (whole refl) ∙ omega arith in
    choice.few refl count choice.inside (omega (arith, e, z))

-- what the digits, by one way up and down, are
pub same_digits : (m power half up down count digits zs up2 down2 : ℕ) (tens : Bool) → 0 < m → 1 ≤ half → half ≤ 2 → (half ≡ 1 → m % 2 ≡ 0) → IsScale power half up down
    → IsChoice (4 * (m * units_down power down)) (units_up up) (half * units_down power down + slack m) (2 * units_down power down + slack m) count tens
    → count ≡ digits * 10 ^ zs → (tens ≡ false → zs ≡ 0) → (tens ≡ true → digits % 10 ≢ 0) → zs ≤ 19 → up2 ≡ up + zs - down → down2 ≡ down - (up + zs)
    → record { digits = digits; up = up2; down = down2 } ≡ digits_of m power half
same_digits m power half up down count digits zs up2 down2 tens some least narrow even scale choice split whole trim few is_up is_down =
    let place = up + (324 - down) in
    let d = units_down power down in
    let at : greatest (is_fine power half) 640 ≡ place = place_is power half up down scale in
    let found = is_chosen m half d (units_up up) some least narrow even (step_some power down) (unit_some up) scale.finer scale.least in
    let mine : chosen (4 * (m * d)) (units_up up) (half * d + slack m) (2 * d + slack m) ≡ count = one_choice _ _ _ _ _ _ _ _ found.1 choice in
    let same : chosen_at m power half place ≡ count = (λ i. chosen (4 * (m * units_down power (down_at up down scale i))) (units_up (up_at up down scale i)) (half * units_down power (down_at up down scale i) + slack m) (2 * units_down power (down_at up down scale i) + slack m)) ∙ mine in
    let zeros : greatest (λ k. count % 10 ^ k == 0) 19 ≡ zs =
    subst (λ x. greatest (λ k. x % 10 ^ k == 0) 19 ≡ zs) (sym split) (greatest_is _ 19 zs few (zeros_at digits zs tr zs refl) (no_more digits zs tr)) in
    let whole_count : count / 10 ^ zs ≡ digits = ap (λ x. x / 10 ^ zs) split ∙ Rattle.std.proofs.Math.Nat.mul-div_cancel digits (pow_some zs) in
    let all : digits_of m power half ≡ trimmed count place = (λ i. trimmed (chosen_at m power half (at i)) (at i)) ∙ ap (λ x. trimmed x place) same in
    let shown : trimmed count place ≡ record { digits = digits; up = place + zs - 324; down = 324 - (place + zs) } =
    (λ i. record { digits = count / 10 ^ zeros i; up = place + zeros i - 324; down = 324 - (place + zeros i) }) ∙ ap (λ x. record { digits = x; up = place + zs - 324; down = 324 - (place + zs) }) whole_count in
    let to_up : up2 ≡ place + zs - 324 = omega (arith, is_up, scale.down_small) in
    let to_down : down2 ≡ 324 - (place + zs) = omega (arith, is_down, scale.down_small) in
    (λ i. record { digits = digits; up = to_up i; down = to_down i }) ∙ sym (all ∙ shown)
  where
    tr : digits % 10 ≢ 0
    tr = last_digit _ _ _ _ count digits zs tens choice split whole trim

    up_at : (up down : ℕ) (scale : IsScale power half up down) → up + (324 - down) - 324 ≡ up
    up_at up down scale = elim scale.plain [
      | inl z ↦ omega (arith, z, scale.down_small)
      | inr z ↦ omega (arith, z)
    ]

    down_at : (up down : ℕ) (scale : IsScale power half up down) → 324 - (up + (324 - down)) ≡ down
    down_at up down scale = elim scale.plain [
      | inl z ↦ omega (arith, z, scale.down_small)
      | inr z ↦ omega (arith, z)
    ]

pub is_trimmed : (n unit below above count digits zs up down up2 down2 : ℕ) (tens : Bool) → IsChoice n unit below above count tens → count ≡ digits * 10 ^ zs
    → (tens ≡ false → zs ≡ 0) → (tens ≡ true → digits % 10 ≢ 0) → up2 ≡ up + zs - down → down2 ≡ down - (up + zs) → IsTrimmed digits up2 down2
is_trimmed n unit below above count digits zs up down up2 down2 tens choice split whole trim is_up is_down = record {
  one_way = elim (eq-zero-or-pos (up + zs - down)) [
    | inl z ↦ inl (omega (arith, is_up, z))
    | inr p ↦ inr (omega (arith, is_down, p))
  ];
  last = λ z. absurd (last_digit n unit below above count digits zs tens choice split whole trim z);
}

-- ---- from a float

dropped : (f : Format) (m k power half : ℕ) → HasMantissa f m k power half → drop (prec f) (m * 2 ^ k) 1 ≡ k
dropped f m k power half has = let z = drop (prec f) (m * 2 ^ k) 1 in elim (eq-zero-or-pos (k - z)) [
  | inr p ↦
      let a : 2 ^ (prec f + z) ≤ 2 ^ (prec f - 1 + k) = pow-le-pow_right (omega arith) (omega (arith, p)) in
      let b : 2 ^ (prec f - 1) * 2 ^ k ≤ m * 2 ^ k = mul-le-mul_right (2 ^ k) (has.normal (omega (arith, p))) in
      absurd (omega (arith, a, b, pow-add 2 (prec f - 1) k, dropped_most (prec f) (m * 2 ^ k) 1 (omega arith)))
  | inl y ↦ elim (eq-zero-or-pos (z - k)) [
    | inl x ↦ omega (arith, x, y)
    | inr p ↦
        let a : 2 ^ (prec f + k) ≤ 2 ^ (prec f - 1 + z) = pow-le-pow_right (omega arith) (omega (arith, p)) in
        let b : (m + 1) * 2 ^ k ≤ 2 ^ prec f * 2 ^ k = mul-le-mul_right (2 ^ k) (omega (arith, has.short)) in
        absurd (omega (arith, a, b, pow-add 2 (prec f) k, pow_pos k, dropped_least (prec f) (m * 2 ^ k) 1 (prec_some f) (omega arith) (omega (arith, p))))
  ]
]
  where
    prec_some : (f : Format) → 0 < prec f
    prec_some binary32 = omega arith
    prec_some binary64 = omega arith

half_is : (k m edge half : ℕ) → (0 < k → m ≡ edge → half ≡ 1) → half ≡ 2 ⊎ (half ≡ 1) × (0 < k) × (m ≡ edge)
    → (if nat_lt 0 k && (m == edge) then 1 else 2) ≡ half
half_is k m edge half one (inr e) = grind (arith, e.0, e.1, e.2)
half_is k m edge half one (inl e) = grind (arith, one, e)

pub shortest_of_steps : (f : Format) (x : Float) (s : Bool) (a : ℕ) → HasValue x s a (2 ^ low f) → shortest f x ≡ digits_of_steps f a
unfolding shortest
shortest_of_steps f nan s a v = absurd v
shortest_of_steps f (inf t) s a v = absurd v
shortest_of_steps f (fin t m e) s a v = ap (digits_of_steps f) (ap (λ y. y / down e) v.1 ∙ Rattle.std.proofs.Math.Nat.mul-div_cancel a (down_pos e))

abbrev digits_of_steps_some : Format → ℕ → ℕ → Shortest
digits_of_steps_some f steps k = digits_of (steps / 2 ^ k) (k + (1074 - low f)) (if nat_lt 0 k && (steps / 2 ^ k == 2 ^ (prec f - 1)) then 1 else 2)

-- a format's float of m * 2 ^ k of its least steps
pub shortest_of_mantissa : (f : Format) (x : Float) (s : Bool) (m k power half : ℕ) → HasMantissa f m k power half → HasValue x s (m * 2 ^ k) (2 ^ low f)
    → shortest f x ≡ digits_of m power half
shortest_of_mantissa f x s m k power half has v =
    let at : drop (prec f) (m * 2 ^ k) 1 ≡ k = dropped f m k power half has in
    let whole : m * 2 ^ k / 2 ^ k ≡ m = Rattle.std.proofs.Math.Nat.mul-div_cancel m (pow_pos k) in
    let some : 0 < m * 2 ^ k = mul-pos has.some (pow_pos k) in
    shortest_of_steps f x s (m * 2 ^ k) v
    ∙ ap (λ b. if b then record { digits = 0; up = 0; down = 0 } else digits_of_steps_some f (m * 2 ^ k) (drop (prec f) (m * 2 ^ k) 1)) (let e : (m * 2 ^ k == 0) ≡ false = grind (arith, some) in e)
    ∙ ap (digits_of_steps_some f (m * 2 ^ k)) at
    ∙ ap (λ y. digits_of y (k + (1074 - low f)) (if nat_lt 0 k && (y == 2 ^ (prec f - 1)) then 1 else 2)) whole
    ∙ (λ i. digits_of m (sym has.at i) (half_is k m (2 ^ (prec f - 1)) half has.edge has.plain i))

-- a value by the least steps of the smaller format
pub by_short_steps : (x : Float) (s : Bool) (m power : ℕ) → 925 ≤ power → HasValue x s (m * 2 ^ power) (2 ^ 1074) → HasValue x s (m * 2 ^ (power - 925)) (2 ^ low binary32)
by_short_steps x s m power h v =
    let e : power ≡ power - 925 + 925 = omega (arith, h) in
    let p : m * 2 ^ power ≡ m * 2 ^ (power - 925) * 2 ^ 925 = ap (λ y. m * 2 ^ y) e ∙ ap (λ y. m * y) (pow-add 2 (power - 925) 925) ∙ sym (mul_assoc m (2 ^ (power - 925)) (2 ^ 925)) in
    value_unscaled x s (m * 2 ^ (power - 925)) (2 ^ low binary32) (2 ^ 925) (pow_pos 925) (subst (λ y. HasValue x s y (2 ^ 1074)) p v)

-- zero has the digit 0
pub shortest_of_zero : (f : Format) (x : Float) (sign : Bool) (m power : ℕ) → m ≡ 0 → HasValue x sign (m * 2 ^ power) (2 ^ 1074) → shortest f x ≡ record { digits = 0; up = 0; down = 0 }
shortest_of_zero f x sign m power z v = shortest_of_steps f x sign 0 (none x (subst (λ y. HasValue x sign y (2 ^ 1074)) (ap (λ y. y * 2 ^ power) z ∙ omega arith) v)) ∙ refl
  where
    none : (x : Float) → HasValue x sign 0 (2 ^ 1074) → HasValue x sign 0 (2 ^ low f)
    none nan v = absurd v
    none (inf t) v = absurd v
    none (fin t m e) v = (v.0, visited (m * lib.Ieee.up e) v.1)
      where
        visited : (u : ℕ) → u * 2 ^ 1074 ≡ 0 * down e → u * 2 ^ low f ≡ 0 * down e
        visited u h = elim (eq-zero-or-pos u) [
          | inl y ↦ ap (λ t. t * 2 ^ low f) y ∙ omega arith
          | inr p ↦ absurd (omega (arith, h, mul-pos p (pow_pos 1074)))
        ]
