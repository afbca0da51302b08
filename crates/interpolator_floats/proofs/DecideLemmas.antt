-- The choice among the counts between two bounds.
use Rattle.std.proofs.Common.{◌≡◌, ◌≢◌, ◌↔◌, ℕ, ◌<◌, ◌≤◌, ◌-◌, ◌+◌, ◌*◌, ◌/◌, ◌%◌, true, false}
use Rattle.std.proofs.Common.{true≢false, sym, ap, ◌∙◌, arith, eq-zero-or-pos, inl, inr}
use Rattle.std.proofs.Math.Nat.{mul-le-mul_right, div-add-mod', mod-lt, le-div_iff_mul-le}
use native.Mathlib.Nat.{lt_of_not-le, not-le_of_lt}
use Rattle.interpolator_digits.specs.Exponent.{distance}
use Rattle.interpolator_floats.proofs.{BoundLemmas.slack, ChoiceLemmas.only_tens}
use Rattle.interpolator_floats.specs.Floats.{IsChoice, IsInside}

module _ (n unit below above low high near : ℕ) (some : 0 < unit) (narrow : below + above ≤ 10 * unit + 1)
    (within : (count : ℕ) → IsInside n unit below above count → (low ≤ count) × (count ≤ high))
    (inside : (count : ℕ) → low ≤ count → count ≤ high → IsInside n unit below above count)
    (near_low : 2 * (near * unit) ≤ 2 * n + unit) (near_high : 2 * n < 2 * (near * unit) + unit)
    (most : near ≤ high) (next : low ≤ near + 1) (between : low ≤ high) where
  pub tens_choice : low ≤ high - high % 10 → IsChoice n unit below above (high - high % 10) true
  tens_choice h =
      let i = inside (high - high % 10) h (omega arith) in record {
        inside = i;
        tenfold = λ e. omega arith;
        few = λ e. absurd (true≢false e);
        only = λ e other j z. only_tens n unit below above other (high - high % 10) narrow j i z (omega arith);
        near = λ e. absurd (true≢false e);
        greater = λ e. absurd (true≢false e);
      }

  no_ten : ¬ (low ≤ high - high % 10) → (other : ℕ) → IsInside n unit below above other → other % 10 ≢ 0
  no_ten h other i z = let w = within other i in h (omega (arith, w.0, w.1, z))

  step_up : (a b : ℕ) → a < b → a * unit + unit ≤ b * unit
  step_up a b h = let l : (a + 1) * unit ≤ b * unit = mul-le-mul_right unit (omega (arith, h)) in let e : (a + 1) * unit ≡ a * unit + unit = omega arith in omega (arith, l, e)

  pub low_choice : ¬ (low ≤ high - high % 10) → near < low → IsChoice n unit below above low false
  low_choice h l =
      let e : low ≡ near + 1 = omega (arith, l, next) in
      let at : low * unit ≡ near * unit + unit = ap (λ x. x * unit) e ∙ omega arith in record {
        inside = inside low (omega arith) between;
        tenfold = λ f. absurd (true≢false (sym f));
        few = λ f other i z. no_ten h other i z;
        only = λ f. absurd (true≢false (sym f));
        near = λ f other i. let up : low * unit ≤ other * unit = mul-le-mul_right unit (within other i).0 in omega (arith, up, at, near_high);
        greater = λ f other i g. omega (arith, step_up low other g, at, near_high, some);
      }

  nearest_of_all : (other : ℕ) → distance n (near * unit) ≤ distance n (other * unit)
  nearest_of_all other = elim (eq-zero-or-pos (other - near)) [
    | inr p ↦ omega (arith, step_up near other (omega (arith, p)), near_low, near_high)
    | inl z ↦ elim (eq-zero-or-pos (near - other)) [
      | inr p ↦ omega (arith, step_up other near (omega (arith, p)), near_low, near_high)
      | inl q ↦ let e : near ≡ other = omega (arith, z, q) in omega (arith, ap (λ x. x * unit) e)
    ]
  ]

  pub near_choice : ¬ (low ≤ high - high % 10) → ¬ (near < low) → IsChoice n unit below above near false
  near_choice h l = record {
    inside = inside near (omega (arith, l)) most;
    tenfold = λ f. absurd (true≢false (sym f));
    few = λ f other i z. no_ten h other i z;
    only = λ f. absurd (true≢false (sym f));
    near = λ f other i. nearest_of_all other;
    greater = λ f other i g. omega (arith, step_up near other g, near_low, near_high, some);
  }

pub ruleset decisions = (tens_choice, low_choice, near_choice)

-- ---- the bounds of a float

module _ (m half d unit s q low high : ℕ) (some : 0 < m) (S : s ≤ 1) (least : 1 ≤ half) (narrow : half ≤ 2) (finer : unit ≤ (half + 2) * d) (wide : (half + 2) * d < 10 * unit)
    (odd : s ≡ 0 → (half ≡ 2) × (m % 2 ≡ 1)) (twice : 8 * m * d / unit ≡ q)
    (first : (count : ℕ) → (low ≤ count) ↔ ((4 * m - half) * d < count * unit + s))
    (last : (count : ℕ) → (count ≤ high) ↔ (count * unit < (4 * m + 2) * d + s)) where
  abbrev n : ℕ
  n = 4 * (m * d)

  abbrev near : ℕ
  near = (q + 1) / 2

  unit_some : 0 < unit
  unit_some = omega (arith, wide)

  low_part : (4 * m - half) * d + half * d ≡ n
  low_part = let e : 4 * m - half + half ≡ 4 * m = omega (arith, some, narrow) in (let w : (4 * m - half) * d + half * d ≡ (4 * m - half + half) * d = omega arith in w) ∙ ap (λ x. x * d) e ∙ omega arith

  high_part : (4 * m + 2) * d ≡ n + 2 * d
  high_part = omega arith

  four : (half + 2) * d ≤ 4 * d
  four = mul-le-mul_right d (omega (arith, narrow))

  pub bounds_narrow : half * d + s + (2 * d + s) ≤ 10 * unit + 1
  bounds_narrow = let e : (half + 2) * d ≡ half * d + 2 * d = omega arith in omega (arith, wide, S, e)

  pub within : (count : ℕ) → IsInside n unit (half * d + s) (2 * d + s) count → (low ≤ count) × (count ≤ high)
  within count i = ((first count).1 (omega (arith, i.low, low_part)), (last count).1 (omega (arith, i.high, high_part)))

  pub inside : (count : ℕ) → low ≤ count → count ≤ high → IsInside n unit (half * d + s) (2 * d + s) count
  inside count a b = record { low = omega (arith, (first count).0 a, low_part); high = omega (arith, (last count).0 b, high_part) }

  whole : q * unit + 8 * m * d % unit ≡ 2 * n
  whole = (λ i. sym twice i * unit + 8 * m * d % unit) ∙ div-add-mod' (8 * m * d) unit ∙ omega arith

  pub near_low : 2 * (near * unit) ≤ 2 * n + unit
  near_low =
      let l : 2 * near * unit ≤ (q + 1) * unit = mul-le-mul_right unit (omega arith) in
      let e : (q + 1) * unit ≡ q * unit + unit = omega arith in
      let f : 2 * near * unit ≡ 2 * (near * unit) = omega arith in omega (arith, l, e, f, whole)

  pub near_high : 2 * n < 2 * (near * unit) + unit
  near_high =
      let l : q * unit ≤ 2 * near * unit = mul-le-mul_right unit (omega arith) in
      let f : 2 * near * unit ≡ 2 * (near * unit) = omega arith in omega (arith, l, f, whole, mod-lt (8 * m * d) unit_some)

  -- a float with an odd mantissa lies no half unit off a count that is its bound
  no_half : (a : ℕ) → s ≡ 0 → unit ≡ (half + 2) * d → 2 * n ≡ 2 * (a * unit) + unit → ⊥
  no_half a z e h =
      let o = odd z in
      let u : unit ≡ 4 * d = e ∙ ap (λ x. (x + 2) * d) o.0 in
      let w : 2 * n ≡ 2 * m * unit = (let x : 2 * n ≡ 2 * m * (4 * d) = omega arith in x) ∙ ap (λ x. 2 * m * x) (sym u) in
      let v : 2 * (a * unit) + unit ≡ (2 * a + 1) * unit = omega arith in
      let same : 2 * m ≡ 2 * a + 1 = native.Mathlib.Nat.eq_of_mul-eq-mul_right unit unit_some (2 * m) (2 * a + 1) (sym w ∙ h ∙ v) in
      omega (arith, same)

  pub near_most : near ≤ high
  near_most = (last near).1 (elim (eq-zero-or-pos s) [
    | inr p ↦ omega (arith, p, near_low, finer, four, high_part)
    | inl z ↦ elim (eq-zero-or-pos (n + 2 * d - near * unit)) [
      | inr p ↦ omega (arith, p, z, high_part)
      | inl e ↦
          let at : near * unit ≡ n + 2 * d = omega (arith, e, near_low, finer, four) in
          let u : unit ≡ (half + 2) * d = omega (arith, at, near_low, finer, four) in
          let u4 : unit ≡ 4 * d = omega (arith, at, near_low, finer, four) in
          let prev : (near - 1) * unit + unit ≡ near * unit = (let w : near - 1 + 1 ≡ near = near_some e in (let v : (near - 1) * unit + unit ≡ (near - 1 + 1) * unit = omega arith in v) ∙ ap (λ x. x * unit) w) in
          absurd (no_half (near - 1) z u (omega (arith, at, prev, u4)))
    ]
  ])
    where
      near_some : n + 2 * d - near * unit ≡ 0 → near - 1 + 1 ≡ near
      near_some e = elim (eq-zero-or-pos near) [
        | inr p ↦ omega (arith, p)
        | inl z ↦ absurd (omega (arith, e, ap (λ x. x * unit) z, unit_some, finer, four))
      ]

  pub low_next : low ≤ near + 1
  low_next = (first (near + 1)).1 (let e : (near + 1) * unit ≡ near * unit + unit = omega arith in omega (arith, e, near_high, low_part))

  pub some_count : low ≤ high
  some_count = elim (eq-zero-or-pos (low - high)) [
    | inl z ↦ omega (arith, z)
    | inr p ↦
        let a : high ≡ near = omega (arith, p, near_most, low_next) in
        let b : low ≡ near + 1 = omega (arith, p, near_most, low_next) in
        let over : n + 2 * d + s ≤ near * unit + unit = elim (eq-zero-or-pos (n + 2 * d + s - (near * unit + unit))) [
          | inl z ↦ omega (arith, z)
          | inr h ↦ let e : (near + 1) * unit ≡ near * unit + unit = omega arith in absurd (omega (arith, a, (last (near + 1)).1 (omega (arith, h, e, high_part))))
        ] in
        let under : near * unit + half * d + s ≤ n = elim (eq-zero-or-pos (near * unit + half * d + s - n)) [
          | inl z ↦ omega (arith, z)
          | inr h ↦ absurd (omega (arith, b, (first near).1 (omega (arith, h, low_part))))
        ] in
        let e : (half + 2) * d ≡ half * d + 2 * d = omega arith in
        let z : s ≡ 0 = omega (arith, over, under, finer, e) in
        let u : unit ≡ (half + 2) * d = omega (arith, over, under, finer, e) in
        let hd : half * d ≡ 2 * d = ap (λ x. x * d) (odd z).0 in
        absurd (no_half near z u (omega (arith, over, under, z, u, e, hd)))
  ]

-- ---- what the code's steps ask

pub slack_odd : (m half : ℕ) → 1 ≤ half → half ≤ 2 → (half ≡ 1 → m % 2 ≡ 0) → slack m ≡ 0 → (half ≡ 2) × (m % 2 ≡ 1)
slack_odd m half least most even z =
    let o : m % 2 ≡ 1 = odd_one m z in (
      elim (eq-zero-or-pos (half - 1)) [
        | inl e ↦ absurd (omega (arith, even (omega (arith, e, least)), o))
        | inr p ↦ omega (arith, p, most)
      ],
      o,
    )
  where
    odd_one : (m : ℕ) → slack m ≡ 0 → m % 2 ≡ 1
    odd_one m z = elim (eq-zero-or-pos (m % 2)) [
      | inl e ↦ absurd (omega (arith, z, Rattle.interpolator_floats.proofs.BoundLemmas.slack_one m e))
      | inr p ↦ omega (arith, p)
    ]

pub last_some : (m half d unit : ℕ) → 0 < m → half ≤ 2 → unit ≤ (half + 2) * d → 0 < unit → 0 < (4 * m + 2) * d / unit
last_some m half d unit some most finer U =
    let four : (half + 2) * d ≤ (4 * m + 2) * d = mul-le-mul_right d (omega (arith, some, most)) in
    let q : 1 ≤ (4 * m + 2) * d / unit = (le-div_iff_mul-le U).1 (omega (arith, four, finer)) in omega (arith, q)

pub choice_some : (m half d unit s count : ℕ) → 0 < m → half ≤ 2 → s ≤ 1 → 0 < d → IsInside (4 * (m * d)) unit (half * d + s) (2 * d + s) count → 0 < count
choice_some m half d unit s count some most S D i = elim (eq-zero-or-pos count) [
  | inr p ↦ p
  | inl z ↦
      let none : count * unit ≡ 0 = ap (λ x. x * unit) z ∙ omega arith in
      let md : 1 * d ≤ m * d = mul-le-mul_right d some in
      let hd : half * d ≤ 2 * d = mul-le-mul_right d most in
      absurd (omega (arith, i.low, none, md, hd, S, D))
]
