-- Of the decimals inside a float's bounds the shortest, from a choice at one scale.
use Rattle.std.proofs.Common.{◌≡◌, ◌≢◌, ℕ, zero, suc, ◌<◌, ◌≤◌, ◌-◌, ◌+◌, ◌*◌, ◌%◌, ◌^◌, Bool, true, false, true≢false}
use Rattle.std.proofs.Common.{refl, sym, ap, ◌∙◌, arith, eq-zero-or-pos, inl, inr, subst, pow-add, pow-suc, mul_assoc}
use Rattle.std.proofs.Math.Nat.{mul_comm, mul-le-mul_right, mul-le-mul_left, mul-lt-mul_of_pos_right, lt_of_mul-lt-mul_right, mul-pos, mul-sub}
use native.Mathlib.Nat.{eq_of_mul-eq-mul_right, lt_of_not-le, not-le_of_lt, le_of_mul-le-mul_right}
use Rattle.interpolator_digits.specs.Exponent.{distance, exponent_of}
use Rattle.interpolator_digits.proofs.ExponentLemmas.{pow_more, pow_some}
use Rattle.interpolator_digits.proofs.ExponentLemmas.{exponent_bounds_of}
use Rattle.interpolator_floats.specs.Floats.{IsChoice, IsInside}
use Rattle.interpolator_floats.specs.Shortest.{IsNoLonger}

-- ---- fractions

-- a bound, strict or not, of one fraction is a bound of one that is no worse
pub cross : (x y x1 y1 s c c1 : ℕ) → 0 < c → 0 < c1 → s ≤ 1 → x1 < y1 + s → x * c1 ≤ x1 * c → y1 * c ≤ y * c1 → x < y + s
cross x y x1 y1 s c c1 C C1 one h l m = elim (eq-zero-or-pos s) [
  | inl z ↦
      let strict : x1 * c < y1 * c = mul-lt-mul_of_pos_right (omega (arith, h, z)) C in
      omega (arith, z, lt_of_mul-lt-mul_right c1 (let w : x * c1 < y * c1 = omega (arith, l, strict, m) in w))
  | inr p ↦
      let weak : x1 * c ≤ y1 * c = mul-le-mul_right c (omega (arith, h, one)) in
      omega (arith, p, le_of_mul-le-mul_right (let w : x * c1 ≤ y * c1 = omega (arith, l, weak, m) in w) C1)
]

pub distance_scaled : (x y c : ℕ) → distance x y * c ≡ distance (x * c) (y * c)
distance_scaled x y c =
    let a : (x - y) * c ≡ x * c - y * c = mul_comm (x - y) c ∙ mul-sub c x y ∙ (λ i. mul_comm c x i - mul_comm c y i) in
    let b : (y - x) * c ≡ y * c - x * c = mul_comm (y - x) c ∙ mul-sub c y x ∙ (λ i. mul_comm c y i - mul_comm c x i) in
    omega (arith, a, b)

-- ---- decimals inside the bounds of a float of `a` steps, whose neighbours are g steps off

module _ (a g half s w : ℕ) (one : s ≤ 1) where
  -- n / d lies inside the bounds
  abbrev pub In : (n d : ℕ) → Type 0
  In n d = (4 * (a * d) < 4 * (n * w) + half * (g * d) + s) × (4 * (n * w) < 4 * (a * d) + 2 * (g * d) + s)

  pub from_below : (n1 d1 n d : ℕ) → 0 < d → 0 < d1 → n1 * d ≤ n * d1 → 4 * (a * d1) < 4 * (n1 * w) + half * (g * d1) + s
      → 4 * (a * d) < 4 * (n * w) + half * (g * d) + s
  from_below n1 d1 n d D D1 le low =
      let h : n1 * d * w ≤ n * d1 * w = mul-le-mul_right w le in
      let x : 4 * (a * d) * d1 ≡ 4 * (a * d1) * d = omega arith in
      let y1 : (4 * (n1 * w) + half * (g * d1)) * d ≡ 4 * (n1 * d * w) + half * g * d1 * d = omega arith in
      let y : (4 * (n * w) + half * (g * d)) * d1 ≡ 4 * (n * d1 * w) + half * g * d1 * d = omega arith in
      cross (4 * (a * d)) (4 * (n * w) + half * (g * d)) (4 * (a * d1)) (4 * (n1 * w) + half * (g * d1)) s d d1 D D1 one low (omega (arith, x)) (omega (arith, y1, y, h))

  pub from_above : (n1 d1 n d : ℕ) → 0 < d → 0 < d1 → n * d1 ≤ n1 * d → 4 * (n1 * w) < 4 * (a * d1) + 2 * (g * d1) + s
      → 4 * (n * w) < 4 * (a * d) + 2 * (g * d) + s
  from_above n1 d1 n d D D1 le high =
      let h : n * d1 * w ≤ n1 * d * w = mul-le-mul_right w le in
      let x : 4 * (n * w) * d1 ≡ 4 * (n * d1 * w) = omega arith in
      let x1 : 4 * (n1 * w) * d ≡ 4 * (n1 * d * w) = omega arith in
      let y : (4 * (a * d1) + 2 * (g * d1)) * d ≡ (4 * (a * d) + 2 * (g * d)) * d1 = omega arith in
      cross (4 * (n * w)) (4 * (a * d) + 2 * (g * d)) (4 * (n1 * w)) (4 * (a * d1) + 2 * (g * d1)) s d d1 D D1 one high (omega (arith, x, x1, h)) (omega (arith, y))

  pub between : (n1 d1 n2 d2 n d : ℕ) → 0 < d → 0 < d1 → 0 < d2 → n1 * d ≤ n * d1 → n * d2 ≤ n2 * d → In n1 d1 → In n2 d2 → In n d
  between n1 d1 n2 d2 n d D D1 D2 l h i j = (from_below n1 d1 n d D D1 l i.0, from_above n2 d2 n d D D2 h j.1)

  pub same_in : (n1 d1 n d : ℕ) → 0 < d → 0 < d1 → n1 * d ≡ n * d1 → In n1 d1 → In n d
  same_in n1 d1 n d D D1 e i = between n1 d1 n1 d1 n d D D1 D1 (omega (arith, e)) (omega (arith, e)) i i

  -- ---- one scale

  module _ (u v count : ℕ) (tens : Bool) (U : 0 < u) (V : 0 < v) (choice : IsChoice (4 * (a * v)) (4 * (u * w)) (half * (g * v) + s) (2 * (g * v) + s) count tens) where
    pub at_scale : (c : ℕ) → In (c * u) v → IsInside (4 * (a * v)) (4 * (u * w)) (half * (g * v) + s) (2 * (g * v) + s) c
    at_scale c i =
        let e : c * (4 * (u * w)) ≡ 4 * (c * u * w) = omega arith in
        record { low = omega (arith, e, i.0); high = omega (arith, e, i.1) }

    pub from_scale : (c : ℕ) → IsInside (4 * (a * v)) (4 * (u * w)) (half * (g * v) + s) (2 * (g * v) + s) c → In (c * u) v
    from_scale c i =
        let e : c * (4 * (u * w)) ≡ 4 * (c * u * w) = omega arith in
        (omega (arith, e, i.low), omega (arith, e, i.high))

    -- a multiple of ten between a decimal inside and the choice
    pub ten_between : (n d p : ℕ) → 0 < d → In n d → n * v ≤ p * u * d → p ≤ count → p % 10 ≡ 0 → (tens ≡ true) × (p ≡ count)
    ten_between n d p D i l h z =
        let top : p * u * v ≤ count * u * v = mul-le-mul_right v (mul-le-mul_right u h) in
        let inside = at_scale p (between n d (count * u) v (p * u) v V D V l top i (from_scale count choice.inside)) in
        go tens (λ e. choice.few e p inside z) (λ e. choice.only e p inside z)
      where
        go : (b : Bool) → (b ≡ false → ⊥) → (b ≡ true → p ≡ count) → (b ≡ true) × (p ≡ count)
        go true f t = (refl, t refl)
        go false f t = absurd (f refl)

    -- the digits of the choice, less the zeros at its end
    module _ (digits z : ℕ) (W : 0 < w) (G : 0 < g) (narrow : half ≤ 2) (size : g ≤ a) (finer : u * w ≤ g * v) (split : count ≡ digits * 10 ^ z) (whole : tens ≡ false → z ≡ 0)
        (trimmed : tens ≡ true → digits % 10 ≢ 0) (far : tens ≡ true → count ≡ 10 → 19 * (4 * (u * w)) ≤ 2 * (4 * (a * v))) where
      abbrev n : ℕ
      n = 4 * (a * v)

      abbrev unit : ℕ
      unit = 4 * (u * w)

      abbrev off : ℕ → ℕ
      off c = distance n (c * unit)

      unit_low : unit ≤ n
      unit_low = omega (arith, finer, mul-le-mul_right v size)

      pub some_in : (m d : ℕ) → 0 < d → In m d → 0 < m
      some_in m d D i = elim (eq-zero-or-pos m) [
        | inr p ↦ p
        | inl e ↦
            let none : m * w ≡ 0 = ap (λ x. x * w) e ∙ omega arith in
            let gd = mul-pos G D in
            let ad : g * d ≤ a * d = mul-le-mul_right d size in
            let hd : half * (g * d) ≤ 2 * (g * d) = mul-le-mul_right (g * d) narrow in
            absurd (omega (arith, i.0, none, gd, ad, hd, one))
      ]

      -- a decimal that is o / 10 ^ t of the scale's units
      module _ (m d o t : ℕ) (D : 0 < d) (i : In m d) (fine : m * v * 10 ^ t ≡ o * u * d) where
        some : 0 < o
        some = elim (eq-zero-or-pos o) [
          | inr p ↦ p
          | inl e ↦
              let none : o * u * d ≡ 0 = ap (λ x. x * u * d) e ∙ omega arith in
              absurd (omega (arith, fine, none, mul-pos (mul-pos (some_in m d D i) V) (pow_some t)))
        ]

        below : (p : ℕ) → o ≤ p → m * v ≤ p * u * d
        below p h =
            let up : m * v * 1 ≤ m * v * 10 ^ t = mul-le-mul_left (m * v) (pow_some t) in
            let over : o * u * d ≤ p * u * d = mul-le-mul_right d (mul-le-mul_right u h) in
            omega (arith, up, over, fine)

        pub fewest_fine : (j : ℕ) → 10 ^ j ≤ digits → 10 ^ j ≤ o
        fewest_fine zero h = omega (arith, some)
        fewest_fine (suc j) h = elim (eq-zero-or-pos (10 ^ suc j - o)) [
          | inl e ↦ omega (arith, e)
          | inr e ↦
              let p = 10 ^ suc j * 10 ^ z in
              let up : 10 ^ suc j * 1 ≤ p = mul-le-mul_left (10 ^ suc j) (pow_some z) in
              let top : p ≤ count = subst (λ x. p ≤ x) (sym split) (mul-le-mul_right (10 ^ z) h) in
              let ten : p ≡ 10 ^ j * 10 ^ z * 10 = ap (λ x. x * 10 ^ z) (pow-suc 10 j) ∙ omega arith in
              let found = ten_between m d p D i (below p (omega (arith, e, up))) top (omega (arith, ten)) in
              let same : 10 ^ suc j ≡ digits = eq_of_mul-eq-mul_right (10 ^ z) (pow_some z) (10 ^ suc j) digits (found.1 ∙ split) in
              absurd (trimmed found.0 (omega (arith, same, pow-suc 10 j)))
        ]

        -- as short as the digits
        module _ (short : IsNoLonger o digits) (digits_some : 0 < digits) where
          abbrev j : ℕ
          j = exponent_of digits

          next : 10 ^ (j + 1) ≡ 10 ^ j * 10
          next = let e : j + 1 ≡ suc j = omega arith in ap (λ k. 10 ^ k) e ∙ pow-suc 10 j

          less : o < 10 ^ (j + 1)
          less = lt_of_not-le (λ h. not-le_of_lt (exponent_bounds_of digits digits_some).1 (short (j + 1) h))

          z_some : tens ≡ true → 0 < z
          z_some e = elim (eq-zero-or-pos z) [
            | inr p ↦ p
            | inl q ↦
                let same : count ≡ digits = split ∙ ap (λ k. digits * 10 ^ k) q ∙ omega arith in
                absurd (trimmed e (omega (arith, same, choice.tenfold e)))
          ]

          -- then the choice is ten, and the digits are one
          just_ten : tens ≡ true → (count ≡ 10) × (o < 10)
          just_ten e =
              let low = (exponent_bounds_of digits digits_some).0 in
              let ten : 10 ≤ 10 ^ z = pow_more z (z_some e) in
              let wide : digits * 10 ≤ digits * 10 ^ z = mul-le-mul_left digits ten in
              let found = ten_between m d (10 ^ (j + 1)) D i (below (10 ^ (j + 1)) (omega (arith, less))) (omega (arith, wide, split, low, next)) (omega (arith, next)) in
              let exact : digits ≡ 10 ^ j = omega (arith, found.1, split, wide, next, low) in
              let none : j ≡ 0 = elim (eq-zero-or-pos j) [
                | inl q ↦ q
                | inr q ↦
                    let s : j ≡ suc (j - 1) = omega (arith, q) in
                    let more : 10 ^ j ≡ 10 ^ (j - 1) * 10 = ap (λ k. 10 ^ k) s ∙ pow-suc 10 (j - 1) in
                    absurd (trimmed e (omega (arith, exact, more)))
              ] in
              let one_more : 10 ^ (j + 1) ≡ 10 = next ∙ ap (λ k. 10 ^ k * 10) none ∙ omega arith in
              (omega (arith, found.1, one_more), omega (arith, less, one_more))

          at_ten : tens ≡ true → off count * 10 ^ t ≤ distance (n * 10 ^ t) (o * unit)
          at_ten e =
              let found = just_ten e in
              let h = far e found.0 in
              let ten : count * unit ≡ 10 * unit = ap (λ x. x * unit) found.0 in
              let near : off count ≤ n - 9 * unit = omega (arith, ten, h) in
              let times : off count * 10 ^ t ≤ (n - 9 * unit) * 10 ^ t = mul-le-mul_right (10 ^ t) near in
              let spread : (n - 9 * unit) * 10 ^ t ≡ n * 10 ^ t - 9 * unit * 10 ^ t = mul_comm (n - 9 * unit) (10 ^ t) ∙ mul-sub (10 ^ t) n (9 * unit) ∙ (λ i. mul_comm (10 ^ t) n i - mul_comm (10 ^ t) (9 * unit) i) in
              let few : o * unit ≤ 9 * unit = mul-le-mul_right unit (omega (arith, found.1)) in
              let more : 9 * unit * 1 ≤ 9 * unit * 10 ^ t = mul-le-mul_left (9 * unit) (pow_some t) in
              omega (arith, times, spread, few, more)

          same_count : tens ≡ false → count ≡ digits
          same_count e = split ∙ ap (λ k. digits * 10 ^ k) (whole e) ∙ omega arith

          -- of a finer scale: the count and the decimal lie on two sides of a unit
          first_unit : tens ≡ false → 0 < t → (j ≡ 0) × IsInside n unit (half * (g * v) + s) (2 * (g * v) + s) 1
          first_unit e T =
              let low = (exponent_bounds_of digits digits_some).0 in
              let ten : 10 ≤ 10 ^ t = pow_more t T in
              let up : m * v * 10 ≤ m * v * 10 ^ t = mul-le-mul_left (m * v) ten in
              let over : o * u * d ≤ 10 ^ j * 10 * u * d = mul-le-mul_right d (mul-le-mul_right u (omega (arith, less, next))) in
              let shape : 10 ^ j * 10 * u * d ≡ 10 ^ j * u * d * 10 = omega arith in
              let lower : m * v ≤ 10 ^ j * u * d = omega (arith, up, over, shape, fine) in
              let top : 10 ^ j ≤ count = omega (arith, low, same_count e) in
              elim (eq-zero-or-pos j) [
                | inl q ↦
                    let p : 10 ^ j ≡ 1 = ap (λ k. 10 ^ k) q ∙ omega arith in
                    let upper : 10 ^ j * u * v ≤ count * u * v = mul-le-mul_right v (mul-le-mul_right u top) in
                    (q, subst (λ c. IsInside n unit (half * (g * v) + s) (2 * (g * v) + s) c) p (at_scale (10 ^ j) (between m d (count * u) v (10 ^ j * u) v V D V lower upper i (from_scale count choice.inside))))
                | inr q ↦
                    let s : j ≡ suc (j - 1) = omega (arith, q) in
                    let more : 10 ^ j ≡ 10 ^ (j - 1) * 10 = ap (λ k. 10 ^ k) s ∙ pow-suc 10 (j - 1) in
                    absurd (true≢false (sym (ten_between m d (10 ^ j) D i lower top (omega (arith, more))).0 ∙ e))
              ]

          finer_off : tens ≡ false → 0 < t → off count * 10 ^ t ≤ distance (n * 10 ^ t) (o * unit)
          finer_off e T =
              let found = first_unit e T in
              let ten : 10 ≤ 10 ^ t = pow_more t T in
              let near = choice.near e 1 found.1 in
              let low : off count ≤ n - unit = omega (arith, near, unit_low) in
              let times : off count * 10 ^ t ≤ (n - unit) * 10 ^ t = mul-le-mul_right (10 ^ t) low in
              let spread : (n - unit) * 10 ^ t ≡ n * 10 ^ t - unit * 10 ^ t = mul_comm (n - unit) (10 ^ t) ∙ mul-sub (10 ^ t) n unit ∙ (λ i. mul_comm (10 ^ t) n i - mul_comm (10 ^ t) unit i) in
              let o_few : o ≤ 10 = omega (arith, less, next, ap (λ k. 10 ^ k) found.0) in
              let few : o * unit ≤ 10 * unit = mul-le-mul_right unit o_few in
              let more : unit * 10 ≤ unit * 10 ^ t = mul-le-mul_left unit ten in
              omega (arith, times, spread, few, more)

          same_scale : t ≡ 0 → IsInside n unit (half * (g * v) + s) (2 * (g * v) + s) o
          same_scale e =
              let cross : m * v ≡ o * u * d = (let w : m * v * 1 ≡ m * v = omega arith in sym w ∙ ap (λ k. m * v * 10 ^ k) (sym e) ∙ fine) in
              at_scale o (same_in m d (o * u) v V D cross i)

          one_power : t ≡ 0 → 10 ^ t ≡ 1
          one_power e = ap (λ k. 10 ^ k) e ∙ omega arith

          unscaled : t ≡ 0 → distance (n * 10 ^ t) (o * unit) ≡ off o
          unscaled e = let p : n * 10 ^ t ≡ n = ap (λ x. n * x) (one_power e) ∙ omega arith in ap (λ x. distance x (o * unit)) p

          near_false : tens ≡ false → off count * 10 ^ t ≤ distance (n * 10 ^ t) (o * unit)
          near_false e = elim (eq-zero-or-pos t) [
            | inl q ↦ omega (arith, choice.near e o (same_scale q), unscaled q, ap (λ x. off count * x) (one_power q))
            | inr q ↦ finer_off e q
          ]

          pub nearest_fine : off count * 10 ^ t ≤ distance (n * 10 ^ t) (o * unit)
          nearest_fine = go tens near_false at_ten
            where
              go : (b : Bool) → (b ≡ false → off count * 10 ^ t ≤ distance (n * 10 ^ t) (o * unit)) → (b ≡ true → off count * 10 ^ t ≤ distance (n * 10 ^ t) (o * unit)) → off count * 10 ^ t ≤ distance (n * 10 ^ t) (o * unit)
              go true f h = h refl
              go false f h = f refl

          greater_false : tens ≡ false → off count * 10 ^ t ≡ distance (n * 10 ^ t) (o * unit) → o ≤ count * 10 ^ t
          greater_false e same = elim (eq-zero-or-pos t) [
            | inl q ↦ elim (eq-zero-or-pos (o - count)) [
              | inl h ↦ omega (arith, h, ap (λ x. count * x) (one_power q))
              | inr h ↦
                  let l = choice.greater e o (same_scale q) (omega (arith, h)) in
                  absurd (omega (arith, l, same, unscaled q, ap (λ x. off count * x) (one_power q)))
            ]
            | inr q ↦
                let ten : 10 ≤ 10 ^ t = pow_more t q in
                let more : count * 10 ≤ count * 10 ^ t = mul-le-mul_left count ten in
                omega (arith, more, less, next, same_count e, (exponent_bounds_of digits digits_some).0)
          ]

          greater_true : tens ≡ true → o ≤ count * 10 ^ t
          greater_true e =
              let found = just_ten e in
              let more : count * 1 ≤ count * 10 ^ t = mul-le-mul_left count (pow_some t) in
              omega (arith, found.0, found.1, more)

          pub greater_fine : off count * 10 ^ t ≡ distance (n * 10 ^ t) (o * unit) → o ≤ count * 10 ^ t
          greater_fine same = go tens (λ e. greater_false e same) greater_true
            where
              go : (b : Bool) → (b ≡ false → o ≤ count * 10 ^ t) → (b ≡ true → o ≤ count * 10 ^ t) → o ≤ count * 10 ^ t
              go true f h = h refl
              go false f h = f refl

      -- a decimal of a coarser scale is the choice itself
      pub coarse_equal : (m d o t : ℕ) → 0 < d → In m d → 0 < t → m * v ≡ o * 10 ^ t * u * d → (o * 10 ^ t ≡ count) × (digits ≤ o)
      coarse_equal m d o t D i T e =
          let ten : o * 10 ^ t % 10 ≡ 0 = ten_of t T in
          let inside = at_scale (o * 10 ^ t) (same_in m d (o * 10 ^ t * u) v V D e i) in
          go tens (λ f. choice.few f (o * 10 ^ t) inside ten) (λ f. choice.only f (o * 10 ^ t) inside ten) trimmed
        where
          ten_of : (k : ℕ) → 0 < k → o * 10 ^ k % 10 ≡ 0
          ten_of zero h = absurd (omega arith)
          ten_of (suc k) h = let p : o * 10 ^ suc k ≡ o * 10 ^ k * 10 = ap (λ x. o * x) (pow-suc 10 k) ∙ sym (mul_assoc o (10 ^ k) 10) in omega (arith, p)

          least : o * 10 ^ t ≡ count → digits % 10 ≢ 0 → digits ≤ o
          least same odd = elim (eq-zero-or-pos (t - z)) [
            | inl q ↦
                let sum : z ≡ z - t + t = omega (arith, q) in
                let p : 10 ^ z ≡ 10 ^ (z - t) * 10 ^ t = ap (λ k. 10 ^ k) sum ∙ pow-add 10 (z - t) t in
                let exact : o ≡ digits * 10 ^ (z - t) = eq_of_mul-eq-mul_right (10 ^ t) (pow_some t) o (digits * 10 ^ (z - t)) (same ∙ split ∙ ap (λ x. digits * x) p ∙ sym (mul_assoc digits (10 ^ (z - t)) (10 ^ t))) in
                let more : digits * 1 ≤ digits * 10 ^ (z - t) = mul-le-mul_left digits (pow_some (z - t)) in
                omega (arith, exact, more)
            | inr q ↦
                let sum : t ≡ suc (t - z - 1) + z = omega (arith, q) in
                let p : 10 ^ t ≡ 10 ^ (t - z - 1) * 10 * 10 ^ z = ap (λ k. 10 ^ k) sum ∙ pow-add 10 (suc (t - z - 1)) z ∙ ap (λ x. x * 10 ^ z) (pow-suc 10 (t - z - 1)) in
                let exact : o * (10 ^ (t - z - 1) * 10) ≡ digits = eq_of_mul-eq-mul_right (10 ^ z) (pow_some z) (o * (10 ^ (t - z - 1) * 10)) digits (mul_assoc o (10 ^ (t - z - 1) * 10) (10 ^ z) ∙ ap (λ x. o * x) (sym p) ∙ same ∙ split) in
                let shape : o * (10 ^ (t - z - 1) * 10) ≡ o * 10 ^ (t - z - 1) * 10 = omega arith in
                absurd (odd (omega (arith, exact, shape)))
          ]

          go : (b : Bool) → (b ≡ false → ⊥) → (b ≡ true → o * 10 ^ t ≡ count) → (b ≡ true → digits % 10 ≢ 0) → (o * 10 ^ t ≡ count) × (digits ≤ o)
          go true f h k = (h refl, least (h refl) (k refl))
          go false f h k = absurd (f refl)
