-- The shortest digits of a float of a format, from a choice inside its bounds.
use Rattle.std.proofs.Common.{◌≡◌, ◌≢◌, ◌⊎◌, ℕ, ◌<◌, ◌≤◌, ◌-◌, ◌+◌, ◌*◌, ◌%◌, ◌^◌, Bool, true, false}
use Rattle.std.proofs.Common.{refl, sym, ap, ◌∙◌, arith, eq-zero-or-pos, inl, inr, subst, pow-add, mul_assoc}
use Rattle.std.proofs.Math.Nat.{lt_of_lt_of_le, mul_right_comm, mul-le-mul_right, mul-pos, le_trans}
use native.Mathlib.Nat.{eq_of_mul-eq-mul_right, le_of_mul-le-mul_right}
use lib.Pow.{pow_mono, pow_pos, shl_lt}
use lib.Ieee.{Float, Format, binary32, binary64, nan, inf, fin, low, prec, round}
use lib.Ieee.Exact.{HasValue}
use lib.Ieee.Fits.{down_pos}
use lib.Ieee.Order.{drop}
use lib.Ieee.Scale.{round_val, round_under, grid, overflow}
use Rattle.interpolator_digits.specs.Exponent.{distance}
use Rattle.interpolator_digits.proofs.ExponentLemmas.{pow_some}
use Rattle.interpolator_floats.proofs.BoundLemmas.{dropped_least, dropped_most, inside_reads, reads_inside, slack}
use Rattle.interpolator_floats.proofs.ReadLemmas.{finite_of, slack-le}
use Rattle.interpolator_floats.proofs.ShortLemmas.{In, coarse_equal, cross, distance_scaled, fewest_fine, from_scale, greater_fine, nearest_fine, same_in}
use Rattle.interpolator_floats.specs.Floats.{IsChoice, IsInside}
use Rattle.interpolator_floats.specs.Shortest.{HasMantissa, IsNoLonger, IsScale, IsShortest, ReadsAs, far_off, units_down, units_up}

-- ---- a value by other fractions

pub value_scaled : (x : Float) (s : Bool) (a c k : ℕ) → HasValue x s a c → HasValue x s (a * k) (c * k)
value_scaled nan s a c k v = absurd v
value_scaled (inf t) s a c k v = absurd v
value_scaled (fin t m e) s a c k v = (v.0, sym (mul_assoc (m * lib.Ieee.up e) c k) ∙ ap (λ x. x * k) v.1 ∙ mul_right_comm a (lib.Ieee.down e) k)

pub value_unscaled : (x : Float) (s : Bool) (a c k : ℕ) → 0 < k → HasValue x s (a * k) (c * k) → HasValue x s a c
value_unscaled nan s a c k K v = absurd v
value_unscaled (inf t) s a c k K v = absurd v
value_unscaled (fin t m e) s a c k K v =
    (v.0, eq_of_mul-eq-mul_right k K (m * lib.Ieee.up e * c) (a * lib.Ieee.down e) (mul_assoc (m * lib.Ieee.up e) c k ∙ v.1 ∙ mul_right_comm a k (lib.Ieee.down e)))

one_size : (x : Float) (a b c : ℕ) → HasValue x false a c → HasValue x false b c → a ≡ b
one_size nan a b c v w = absurd v
one_size (inf s) a b c v w = absurd v
one_size (fin s m e) a b c v w = eq_of_mul-eq-mul_right (lib.Ieee.down e) (down_pos e) a b (sym v.1 ∙ w.1)

-- ---- what reads as a float of m * 2 ^ k of a format's least steps

module _ (f : Format) (m k q half : ℕ) (two : 2 ≤ prec f) (deep : low f ≤ 1074) (some : 0 < m) (short : m < 2 ^ prec f) (normal : 0 < k → 2 ^ (prec f - 1) ≤ m)
    (fits : m * 2 ^ k < overflow f) (at : q ≡ k + (1074 - low f)) (halved : half ≤ 2) (edge : 0 < k → m ≡ 2 ^ (prec f - 1) → half ≡ 1)
    (plain : half ≡ 2 ⊎ (half ≡ 1) × (0 < k) × (m ≡ 2 ^ (prec f - 1))) where
  abbrev c : ℕ
  c = 2 ^ (1074 - low f)

  abbrev In64 : (n d : ℕ) → Type 0
  In64 n d = In (m * 2 ^ q) (2 ^ q) half (slack m) (2 ^ 1074) (slack-le m) n d

  power : 2 ^ q ≡ 2 ^ k * c
  power = ap (λ x. 2 ^ x) at ∙ pow-add 2 k (1074 - low f)

  whole : 2 ^ 1074 ≡ 2 ^ low f * c
  whole = let e : 1074 ≡ low f + (1074 - low f) = omega (arith, deep) in ap (λ x. 2 ^ x) e ∙ pow-add 2 (low f) (1074 - low f)

  steps : m * 2 ^ q ≡ m * 2 ^ k * c
  steps = ap (λ x. m * x) power ∙ sym (mul_assoc m (2 ^ k) c)

  module _ (n d : ℕ) (D : 0 < d) where
    abbrev z : ℕ
    z = drop (prec f) (n * 2 ^ low f) d

    most : n * 2 ^ low f < 2 ^ (prec f + z) * d
    most = dropped_most (prec f) (n * 2 ^ low f) d D

    least : 0 < z → 2 ^ (prec f - 1 + z) * d ≤ n * 2 ^ low f
    least h = dropped_least (prec f) (n * 2 ^ low f) d (omega (arith, two)) D h

    own : m * 2 ^ q * d ≡ m * (2 ^ k * d) * c
    own = ap (λ x. x * d) steps ∙ omega arith

    gap : 2 ^ q * d ≡ 2 ^ k * d * c
    gap = ap (λ x. x * d) power ∙ mul_right_comm (2 ^ k) c d

    other : n * 2 ^ 1074 ≡ n * 2 ^ low f * c
    other = ap (λ x. n * x) whole ∙ sym (mul_assoc n (2 ^ low f) c)

    -- in steps of the format
    low_steps : 4 * (m * 2 ^ q * d) < 4 * (n * 2 ^ 1074) + half * (2 ^ q * d) + slack m → 4 * (m * (2 ^ k * d)) < 4 * (n * 2 ^ low f) + half * (2 ^ k * d) + slack m
    low_steps h =
        let x : 4 * (m * (2 ^ k * d)) * c ≡ 4 * (m * 2 ^ q * d) * 1 = omega (arith, own) in
        let hg : half * (2 ^ q * d) ≡ half * (2 ^ k * d) * c = ap (λ x. half * x) gap ∙ sym (mul_assoc half (2 ^ k * d) c) in
        let y : (4 * (n * 2 ^ 1074) + half * (2 ^ q * d)) * 1 ≡ (4 * (n * 2 ^ low f) + half * (2 ^ k * d)) * c = omega (arith, other, hg) in
        cross (4 * (m * (2 ^ k * d))) (4 * (n * 2 ^ low f) + half * (2 ^ k * d)) (4 * (m * 2 ^ q * d)) (4 * (n * 2 ^ 1074) + half * (2 ^ q * d)) (slack m) 1 c (omega arith) (pow_pos (1074 - low f)) (slack-le m) h (omega (arith, x)) (omega (arith, y))

    high_steps : 4 * (n * 2 ^ 1074) < 4 * (m * 2 ^ q * d) + 2 * (2 ^ q * d) + slack m → 4 * (n * 2 ^ low f) < 4 * (m * (2 ^ k * d)) + 2 * (2 ^ k * d) + slack m
    high_steps h =
        let x : 4 * (n * 2 ^ low f) * c ≡ 4 * (n * 2 ^ 1074) * 1 = omega (arith, other) in
        let y : (4 * (m * 2 ^ q * d) + 2 * (2 ^ q * d)) * 1 ≡ (4 * (m * (2 ^ k * d)) + 2 * (2 ^ k * d)) * c = omega (arith, own, gap) in
        cross (4 * (n * 2 ^ low f)) (4 * (m * (2 ^ k * d)) + 2 * (2 ^ k * d)) (4 * (n * 2 ^ 1074)) (4 * (m * 2 ^ q * d) + 2 * (2 ^ q * d)) (slack m) 1 c (omega arith) (pow_pos (1074 - low f)) (slack-le m) h (omega (arith, x)) (omega (arith, y))

    low_back : 4 * (m * (2 ^ k * d)) < 4 * (n * 2 ^ low f) + half * (2 ^ k * d) + slack m → 4 * (m * 2 ^ q * d) < 4 * (n * 2 ^ 1074) + half * (2 ^ q * d) + slack m
    low_back h =
        let x : 4 * (m * 2 ^ q * d) * 1 ≡ 4 * (m * (2 ^ k * d)) * c = omega (arith, own) in
        let hg : half * (2 ^ q * d) ≡ half * (2 ^ k * d) * c = ap (λ x. half * x) gap ∙ sym (mul_assoc half (2 ^ k * d) c) in
        let y : (4 * (n * 2 ^ low f) + half * (2 ^ k * d)) * c ≡ (4 * (n * 2 ^ 1074) + half * (2 ^ q * d)) * 1 = omega (arith, other, hg) in
        cross (4 * (m * 2 ^ q * d)) (4 * (n * 2 ^ 1074) + half * (2 ^ q * d)) (4 * (m * (2 ^ k * d))) (4 * (n * 2 ^ low f) + half * (2 ^ k * d)) (slack m) c 1 (pow_pos (1074 - low f)) (omega arith) (slack-le m) h (omega (arith, x)) (omega (arith, y))

    high_back : 4 * (n * 2 ^ low f) < 4 * (m * (2 ^ k * d)) + 2 * (2 ^ k * d) + slack m → 4 * (n * 2 ^ 1074) < 4 * (m * 2 ^ q * d) + 2 * (2 ^ q * d) + slack m
    high_back h =
        let x : 4 * (n * 2 ^ 1074) * 1 ≡ 4 * (n * 2 ^ low f) * c = omega (arith, other) in
        let y : (4 * (m * (2 ^ k * d)) + 2 * (2 ^ k * d)) * c ≡ (4 * (m * 2 ^ q * d) + 2 * (2 ^ q * d)) * 1 = omega (arith, own, gap) in
        cross (4 * (n * 2 ^ 1074)) (4 * (m * 2 ^ q * d) + 2 * (2 ^ q * d)) (4 * (n * 2 ^ low f)) (4 * (m * (2 ^ k * d)) + 2 * (2 ^ k * d)) (slack m) c 1 (pow_pos (1074 - low f)) (omega arith) (slack-le m) h (omega (arith, x)) (omega (arith, y))

    pub in_reads : In64 n d → ReadsAs f (m * 2 ^ q) n d
    in_reads i =
        let e : grid f n d ≡ m * 2 ^ k =
        inside_reads (prec f) m k (n * 2 ^ low f) d z two some short normal D most least half halved edge plain (low_steps i.0) (high_steps i.1) in
        let v : HasValue (round f false n d) false (m * 2 ^ k) (2 ^ low f) =
        subst (λ x. HasValue (round f false n d) false x (2 ^ low f)) e (round_val f n d (subst (λ x. x < overflow f) (sym e) fits)) in
        let w = value_scaled (round f false n d) false (m * 2 ^ k) (2 ^ low f) c v in
        subst (λ x. HasValue (round f false n d) false x (2 ^ 1074)) (sym steps) (subst (λ x. HasValue (round f false n d) false (m * 2 ^ k * c) x) (sym whole) w)

    pub reads_in : ReadsAs f (m * 2 ^ q) n d → In64 n d
    reads_in v =
        let w : HasValue (round f false n d) false (m * 2 ^ k) (2 ^ low f) =
        value_unscaled (round f false n d) false (m * 2 ^ k) (2 ^ low f) c (pow_pos (1074 - low f))
        (subst (λ x. HasValue (round f false n d) false (m * 2 ^ k * c) x) whole (subst (λ x. HasValue (round f false n d) false x (2 ^ 1074)) steps v)) in
        let e : grid f n d ≡ m * 2 ^ k = one_size (round f false n d) (grid f n d) (m * 2 ^ k) (2 ^ low f) (round_val f n d (round_under f n d (finite_of (round f false n d) _ _ w))) w in
        let both = reads_inside (prec f) m k (n * 2 ^ low f) d z two some short normal D most least half halved edge plain e in
        (low_back both.0, high_back both.1)

  -- ---- the shortest

  module _ (a g : ℕ) (is_a : a ≡ m * 2 ^ q) (is_g : g ≡ 2 ^ q) where
    abbrev In_ : (n d : ℕ) → Type 0
    In_ n d = In a g half (slack m) (2 ^ 1074) (slack-le m) n d

    reads_in_ : (n d : ℕ) → 0 < d → ReadsAs f a n d → In_ n d
    reads_in_ n d D v = subst (λ x. In a x half (slack m) (2 ^ 1074) (slack-le m) n d) (sym is_g)
        (subst (λ x. In x (2 ^ q) half (slack m) (2 ^ 1074) (slack-le m) n d) (sym is_a) (reads_in n d D (subst (λ x. ReadsAs f x n d) is_a v)))

    in_reads_ : (n d : ℕ) → 0 < d → In_ n d → ReadsAs f a n d
    in_reads_ n d D i = subst (λ x. ReadsAs f x n d) (sym is_a)
        (in_reads n d D (subst (λ x. In x (2 ^ q) half (slack m) (2 ^ 1074) (slack-le m) n d) is_a (subst (λ x. In a x half (slack m) (2 ^ 1074) (slack-le m) n d) is_g i)))

    module _ (up down count : ℕ) (tens : Bool)
        (choice : IsChoice (4 * (a * 10 ^ down)) (4 * (10 ^ up * 2 ^ 1074)) (half * (g * 10 ^ down) + slack m) (2 * (g * 10 ^ down) + slack m) count tens)
        (digits zs : ℕ) (size : g ≤ a) (finer : 10 ^ up * 2 ^ 1074 ≤ g * 10 ^ down) (split : count ≡ digits * 10 ^ zs) (exact : tens ≡ false → zs ≡ 0)
        (trimmed : tens ≡ true → digits % 10 ≢ 0) (far : tens ≡ true → count ≡ 10 → 19 * (4 * (10 ^ up * 2 ^ 1074)) ≤ 2 * (4 * (a * 10 ^ down)))
        (up2 down2 : ℕ) (same : digits * 10 ^ up2 * 10 ^ down ≡ count * 10 ^ up * 10 ^ down2) where
      abbrev u : ℕ
      u = 10 ^ up

      abbrev v : ℕ
      v = 10 ^ down

      abbrev w : ℕ
      w = 2 ^ 1074

      abbrev cn : ℕ
      cn = digits * 10 ^ up2

      abbrev cd : ℕ
      cd = 10 ^ down2

      abbrev off : ℕ → ℕ
      off o = distance (4 * (a * v)) (o * (4 * (u * w)))

      gap_some : 0 < g
      gap_some = subst (λ x. 0 < x) (sym is_g) (pow_pos q)

      inside : In_ (count * u) v
      inside = from_scale a g half (slack m) w (slack-le m) u v count tens (pow_some up) (pow_some down) choice count choice.inside

      chosen_in : In_ cn cd
      chosen_in = same_in a g half (slack m) w (slack-le m) (count * u) v cn cd (pow_some down2) (pow_some down) (sym same) inside

      count_some : 0 < count
      count_some = elim (eq-zero-or-pos count) [
        | inr p ↦ p
        | inl e ↦ absurd (omega (
          arith,
          Rattle.interpolator_floats.proofs.ShortLemmas.some_in a g half (slack m) w (slack-le m) u v count tens (pow_some up) (pow_some down) choice
              digits zs (pow_pos 1074) gap_some halved size finer split exact trimmed far (count * u) v (pow_some down) inside,
          ap (λ x. x * u) e,
        ))
      ]

      digits_some : 0 < digits
      digits_some = elim (eq-zero-or-pos digits) [
        | inr p ↦ p
        | inl e ↦ absurd (omega (arith, count_some, split, ap (λ x. x * 10 ^ zs) e))
      ]

      -- how far the choice lies from the float, in the scale's units
      chosen_off : far_off a cn cd * (4 * v) ≡ off count * cd
      chosen_off =
          let x : a * cd * (4 * v) ≡ 4 * (a * v) * cd = omega arith in
          let y : cn * w * (4 * v) ≡ count * (4 * (u * w)) * cd = (let s1 : cn * w * (4 * v) ≡ cn * v * (4 * w) = omega arith in let s2 : count * u * cd * (4 * w) ≡ count * (4 * (u * w)) * cd = omega arith in s1 ∙ ap (λ t. t * (4 * w)) same ∙ s2) in
          distance_scaled (a * cd) (cn * w) (4 * v) ∙ (λ i. distance (x i) (y i)) ∙ sym (distance_scaled (4 * (a * v)) (count * (4 * (u * w))) cd)

      module _ (o more less : ℕ) (reads : ReadsAs f a (o * 10 ^ more) (10 ^ less)) where
        abbrev m2 : ℕ
        m2 = o * 10 ^ more

        abbrev d2 : ℕ
        d2 = 10 ^ less

        i2 : In_ m2 d2
        i2 = reads_in_ m2 d2 (pow_some less) reads

        -- o2 / 10 ^ t of the scale's units
        module _ (o2 t : ℕ) (fine : m2 * v * 10 ^ t ≡ o2 * u * d2) where
          other_off : far_off a m2 d2 * (4 * v * 10 ^ t) ≡ distance (4 * (a * v) * 10 ^ t) (o2 * (4 * (u * w))) * d2
          other_off =
              let x : a * d2 * (4 * v * 10 ^ t) ≡ 4 * (a * v) * 10 ^ t * d2 = omega arith in
              let y : m2 * w * (4 * v * 10 ^ t) ≡ o2 * (4 * (u * w)) * d2 = (let s1 : m2 * w * (4 * v * 10 ^ t) ≡ m2 * v * 10 ^ t * (4 * w) = omega arith in let s2 : o2 * u * d2 * (4 * w) ≡ o2 * (4 * (u * w)) * d2 = omega arith in s1 ∙ ap (λ s. s * (4 * w)) fine ∙ s2) in
              distance_scaled (a * d2) (m2 * w) (4 * v * 10 ^ t) ∙ (λ i. distance (x i) (y i)) ∙ sym (distance_scaled (4 * (a * v) * 10 ^ t) (o2 * (4 * (u * w))) d2)

          abbrev deep_unit : ℕ
          deep_unit = 4 * v * 10 ^ t

          deep_some : 0 < deep_unit
          deep_some = mul-pos (mul-pos (omega arith) (pow_some down)) (pow_some t)

          left : far_off a cn cd * d2 * deep_unit ≡ off count * 10 ^ t * (cd * d2)
          left = (let s1 : far_off a cn cd * d2 * deep_unit ≡ far_off a cn cd * (4 * v) * (10 ^ t * d2) = omega arith in let s2 : off count * cd * (10 ^ t * d2) ≡ off count * 10 ^ t * (cd * d2) = omega arith in s1 ∙ ap (λ s. s * (10 ^ t * d2)) chosen_off ∙ s2)

          right : far_off a m2 d2 * cd * deep_unit ≡ distance (4 * (a * v) * 10 ^ t) (o2 * (4 * (u * w))) * (cd * d2)
          right = (let s1 : far_off a m2 d2 * cd * deep_unit ≡ far_off a m2 d2 * deep_unit * cd = omega arith in let s2 : distance (4 * (a * v) * 10 ^ t) (o2 * (4 * (u * w))) * d2 * cd ≡ distance (4 * (a * v) * 10 ^ t) (o2 * (4 * (u * w))) * (cd * d2) = omega arith in s1 ∙ ap (λ s. s * cd) other_off ∙ s2)

          no_nearer : off count * 10 ^ t ≤ distance (4 * (a * v) * 10 ^ t) (o2 * (4 * (u * w))) → far_off a cn cd * d2 ≤ far_off a m2 d2 * cd
          no_nearer h =
              let p : off count * 10 ^ t * (cd * d2) ≤ distance (4 * (a * v) * 10 ^ t) (o2 * (4 * (u * w))) * (cd * d2) = mul-le-mul_right (cd * d2) h in
              le_of_mul-le-mul_right (let q : far_off a cn cd * d2 * deep_unit ≤ far_off a m2 d2 * cd * deep_unit = omega (arith, p, left, right) in q) deep_some

          as_near : far_off a cn cd * d2 ≡ far_off a m2 d2 * cd → off count * 10 ^ t ≡ distance (4 * (a * v) * 10 ^ t) (o2 * (4 * (u * w)))
          as_near e = eq_of_mul-eq-mul_right (cd * d2) (mul-pos (pow_some down2) (pow_some less)) (off count * 10 ^ t) (distance (4 * (a * v) * 10 ^ t) (o2 * (4 * (u * w))))
              (sym left ∙ ap (λ s. s * deep_unit) e ∙ right)

          no_greater : o2 ≤ count * 10 ^ t → m2 * cd ≤ cn * d2
          no_greater h =
              let p : o2 * (u * d2 * cd) ≤ count * 10 ^ t * (u * d2 * cd) = mul-le-mul_right (u * d2 * cd) h in
              let x : m2 * cd * (v * 10 ^ t) ≡ o2 * (u * d2 * cd) = (let s1 : m2 * cd * (v * 10 ^ t) ≡ m2 * v * 10 ^ t * cd = omega arith in let s2 : o2 * u * d2 * cd ≡ o2 * (u * d2 * cd) = omega arith in s1 ∙ ap (λ s. s * cd) fine ∙ s2) in
              let y : cn * d2 * (v * 10 ^ t) ≡ count * 10 ^ t * (u * d2 * cd) = (let s1 : cn * d2 * (v * 10 ^ t) ≡ cn * v * (d2 * 10 ^ t) = omega arith in let s2 : count * u * cd * (d2 * 10 ^ t) ≡ count * 10 ^ t * (u * d2 * cd) = omega arith in s1 ∙ ap (λ s. s * (d2 * 10 ^ t)) same ∙ s2) in
              le_of_mul-le-mul_right (let q : m2 * cd * (v * 10 ^ t) ≤ cn * d2 * (v * 10 ^ t) = omega (arith, p, x, y) in q) (mul-pos (pow_some down) (pow_some t))

        -- of a scale as fine or finer
        fine_at : (t : ℕ) → up + less ≡ more + down + t → m2 * v * 10 ^ t ≡ o * u * d2
        fine_at t e =
            let p : 10 ^ up * 10 ^ less ≡ 10 ^ more * 10 ^ down * 10 ^ t = sym (pow-add 10 up less) ∙ ap (λ k. 10 ^ k) e ∙ pow-add 10 (more + down) t ∙ ap (λ x. x * 10 ^ t) (pow-add 10 more down) in
            (let s : m2 * v * 10 ^ t ≡ o * (10 ^ more * 10 ^ down * 10 ^ t) = omega arith in s) ∙ ap (λ x. o * x) (sym p) ∙ sym (mul_assoc o u d2)

        -- of a coarser one
        coarse_at : (t : ℕ) → more + down ≡ up + less + t → m2 * v ≡ o * 10 ^ t * u * d2
        coarse_at t e =
            let p : 10 ^ more * 10 ^ down ≡ 10 ^ up * 10 ^ less * 10 ^ t = sym (pow-add 10 more down) ∙ ap (λ k. 10 ^ k) e ∙ pow-add 10 (up + less) t ∙ ap (λ x. x * 10 ^ t) (pow-add 10 up less) in
            mul_assoc o (10 ^ more) v ∙ ap (λ x. o * x) p ∙ (let s : o * (10 ^ up * 10 ^ less * 10 ^ t) ≡ o * 10 ^ t * u * d2 = omega arith in s)

        abbrev finer_by : ℕ
        finer_by = up + less - (more + down)

        abbrev coarser_by : ℕ
        coarser_by = more + down - (up + less)

        coarse : 0 < coarser_by → (o * 10 ^ coarser_by ≡ count) × (digits ≤ o)
        coarse h = coarse_equal a g half (slack m) w (slack-le m) u v count tens (pow_some up) (pow_some down) choice digits zs (pow_pos 1074) gap_some halved size finer split exact trimmed far
            m2 d2 o coarser_by (pow_some less) i2 h (coarse_at coarser_by (omega (arith, h)))

        equal : 0 < coarser_by → m2 * v * 10 ^ 0 ≡ count * u * d2
        equal h = (let s : m2 * v * 10 ^ 0 ≡ m2 * v = omega arith in s) ∙ coarse_at coarser_by (omega (arith, h)) ∙ ap (λ x. x * u * d2) (coarse h).0

        fewest_ : IsNoLonger digits o
        fewest_ j h = elim (eq-zero-or-pos coarser_by) [
          | inl e ↦ fewest_fine a g half (slack m) w (slack-le m) u v count tens (pow_some up) (pow_some down) choice digits zs (pow_pos 1074) gap_some halved size finer split exact trimmed far
              m2 d2 o finer_by (pow_some less) i2 (fine_at finer_by (omega (arith, e))) j h
          | inr p ↦ le_trans h (coarse p).1
        ]

        nearest_ : IsNoLonger o digits → far_off a cn cd * d2 ≤ far_off a m2 d2 * cd
        nearest_ short = elim (eq-zero-or-pos coarser_by) [
          | inl e ↦
              let fine = fine_at finer_by (omega (arith, e)) in
              no_nearer o finer_by fine (nearest_fine a g half (slack m) w (slack-le m) u v count tens (pow_some up) (pow_some down) choice digits zs (pow_pos 1074) gap_some halved size finer split exact trimmed far
              m2 d2 o finer_by (pow_some less) i2 fine short digits_some)
          | inr p ↦
              let one : 4 * (a * v) * 10 ^ 0 ≡ 4 * (a * v) = omega arith in
              no_nearer count 0 (equal p) (omega (arith, ap (λ x. distance x (count * (4 * (u * w)))) one))
        ]

        greater_ : IsNoLonger o digits → far_off a cn cd * d2 ≡ far_off a m2 d2 * cd → m2 * cd ≤ cn * d2
        greater_ short near = elim (eq-zero-or-pos coarser_by) [
          | inl e ↦
              let fine = fine_at finer_by (omega (arith, e)) in
              no_greater o finer_by fine (greater_fine a g half (slack m) w (slack-le m) u v count tens (pow_some up) (pow_some down) choice digits zs (pow_pos 1074) gap_some halved size finer split exact trimmed far
              m2 d2 o finer_by (pow_some less) i2 fine short digits_some (as_near o finer_by fine near))
          | inr p ↦ no_greater count 0 (equal p) (omega arith)
        ]

      pub shortest_is : IsShortest f a digits up2 down2
      shortest_is = record {
        reads = in_reads_ cn cd (pow_some down2) chosen_in;
        fewest = fewest_;
        nearest = nearest_;
        greater = greater_;
      }

-- ---- from the code's choice

two_digits : (f : Format) → 2 ≤ prec f
two_digits binary32 = omega arith
two_digits binary64 = omega arith

deep_low : (f : Format) → low f ≤ 1074
deep_low binary32 = omega arith
deep_low binary64 = omega arith

least_power : (f : Format) (k power : ℕ) → k ≡ 0 → power ≡ k + (1074 - low f) → power ≡ 0 ⊎ power ≡ 925
least_power binary32 k power z e = inr (omega (arith, e, z))
least_power binary64 k power z e = inl (omega (arith, e, z))

many_digits : (f : Format) → 10 ≤ 2 ^ (prec f - 1)
many_digits binary32 = omega arith
many_digits binary64 = omega arith

-- ten units that are inside are nearer than nine
pub far_of : (f : Format) (m k power half up down s : ℕ) → HasMantissa f m k power half → half ≤ 2 → s ≤ 1 → IsScale power half up down
    → IsInside (4 * (m * units_down power down)) (units_up up) (half * units_down power down + s) (2 * units_down power down + s) 10
    → 19 * units_up up ≤ 2 * (4 * (m * units_down power down))
far_of f m k power half up down s has most one scale i =
    let d = units_down power down in
    let high : (4 * m + 2) * d ≡ 4 * (m * d) + 2 * d = omega arith in
    elim (eq-zero-or-pos (m - 9)) [
      | inr p ↦
          let ten : 10 * d ≤ m * d = mul-le-mul_right d (omega (arith, p)) in
          let four : (half + 2) * d ≤ 4 * d = mul-le-mul_right d (omega (arith, most)) in
          omega (arith, ten, four, scale.finer)
      | inl z ↦
          let few : m < 10 = omega (arith, z) in
          let none : k ≡ 0 = elim (eq-zero-or-pos k) [
            | inl e ↦ e
            | inr e ↦ absurd (omega (arith, has.normal e, many_digits f, few))
          ] in
          omega (arith, scale.least_floats (least_power f k power none has.at) m few (omega (arith, i.high, high, one)))
    ]

pub found_shortest : (f : Format) (m k power half up down count : ℕ) (tens : Bool) (digits zs up2 down2 : ℕ) → HasMantissa f m k power half → half ≤ 2 → IsScale power half up down
    → IsChoice (4 * (m * units_down power down)) (units_up up) (half * units_down power down + slack m) (2 * units_down power down + slack m) count tens
    → count ≡ digits * 10 ^ zs → (tens ≡ false → zs ≡ 0) → (tens ≡ true → digits % 10 ≢ 0) → up2 + down ≡ zs + up + down2
    → IsShortest f (m * 2 ^ power) digits up2 down2
found_shortest f m k power half up down count tens digits zs up2 down2 has most scale choice split whole trimmed sum =
    let d = units_down power down in
    let g = 2 ^ power in
    let a = m * g in
    let v = 10 ^ down in
    let e : a * v ≡ m * d = mul_assoc m g v in
    let mine : IsChoice (4 * (a * v)) (4 * (10 ^ up * 2 ^ 1074)) (half * (g * v) + slack m) (2 * (g * v) + slack m) count tens =
    subst (λ x. IsChoice (4 * x) (units_up up) (half * d + slack m) (2 * d + slack m) count tens) (sym e) choice in
    let size : g ≤ a = (let l : 1 * g ≤ m * g = mul-le-mul_right g has.some in omega (arith, l)) in
    let four : (half + 2) * d ≤ 4 * d = mul-le-mul_right d (omega (arith, most)) in
    let finer : 10 ^ up * 2 ^ 1074 ≤ g * v = omega (arith, scale.finer, four) in
    let far : tens ≡ true → count ≡ 10 → 19 * (4 * (10 ^ up * 2 ^ 1074)) ≤ 2 * (4 * (a * v)) = λ t c.
    subst (λ x. 19 * units_up up ≤ 2 * (4 * x)) (sym e) (far_of f m k power half up down (slack m) has most (slack-le m) scale
    (subst (λ x. IsInside (4 * (m * d)) (units_up up) (half * d + slack m) (2 * d + slack m) x) c choice.inside)) in
    let tenfold : 10 ^ up2 * 10 ^ down ≡ 10 ^ zs * 10 ^ up * 10 ^ down2 = sym (pow-add 10 up2 down) ∙ ap (λ x. 10 ^ x) sum ∙ pow-add 10 (zs + up) down2 ∙ ap (λ x. x * 10 ^ down2) (pow-add 10 zs up) in
    let same : digits * 10 ^ up2 * 10 ^ down ≡ count * 10 ^ up * 10 ^ down2 =
    mul_assoc digits (10 ^ up2) (10 ^ down) ∙ ap (λ x. digits * x) tenfold ∙ shape digits (10 ^ zs) (10 ^ up) (10 ^ down2) ∙ ap (λ x. x * 10 ^ up * 10 ^ down2) (sym split) in
    shortest_is f m k power half (two_digits f) (deep_low f) has.some has.short has.normal has.fits has.at most has.edge has.plain a g refl refl up down count tens mine digits zs size finer split whole trimmed far up2 down2 same
  where
    shape : (d z u w : ℕ) → d * (z * u * w) ≡ d * z * u * w
    shape d z u w = omega arith

-- zero has the digit 0
zero_reads : ReadsAs binary64 0 (0 * 10 ^ 0) (10 ^ 0)
unfolding round
zero_reads = (refl, refl)

pub zero_shortest : (steps : ℕ) → steps ≡ 0 → IsShortest lib.Ieee.binary64 steps 0 0 0
zero_shortest steps z = subst (λ x. IsShortest lib.Ieee.binary64 x 0 0 0) (sym z) (record {
  reads = zero_reads;
  fewest = λ other more less r k h. absurd (omega (arith, h, pow_some k));
  nearest = λ other more less r short. omega arith;
  greater = λ other more less r short e.
      let far : far_off 0 (other * 10 ^ more) (10 ^ less) ≡ other * 10 ^ more * 2 ^ 1074 = omega arith in
      elim (eq-zero-or-pos (other * 10 ^ more)) [
        | inl n ↦ omega (arith, n)
        | inr p ↦ absurd (omega (arith, e, far, mul-pos p (pow_pos 1074)))
      ];
})

pub any_size : (x : Float) (s t : Bool) (a b c : ℕ) → HasValue x s a c → HasValue x t b c → a ≡ b
any_size nan s t a b c v w = absurd v
any_size (inf r) s t a b c v w = absurd v
any_size (fin r m e) s t a b c v w = eq_of_mul-eq-mul_right (lib.Ieee.down e) (down_pos e) a b (sym v.1 ∙ w.1)

pub is_mantissa : (m power half : ℕ) → 0 < m → m < 2 ^ 53 → power ≤ 2045 → (0 < power → 2 ^ 52 ≤ m) → (0 < power → m ≡ 2 ^ 52 → half ≡ 1)
    → half ≡ 2 ⊎ (half ≡ 1) × (0 < power) × (m ≡ 2 ^ 52) → HasMantissa binary64 m power power half
is_mantissa m power half some short low_power normal edge plain = record {
  some = some;
  short = short;
  normal = normal;
  fits = lt_of_lt_of_le (shl_lt {a = m} 53 power short) (pow_mono {i = 53 + power} {j = 2098} (omega (arith, low_power)));
  at = omega arith;
  edge = edge;
  plain = plain;
}

pub is_short_mantissa : (m power half : ℕ) → 0 < m → m < 2 ^ 24 → 925 ≤ power → power ≤ 1178 → (925 < power → 2 ^ 23 ≤ m) → (925 < power → m ≡ 2 ^ 23 → half ≡ 1)
    → half ≡ 2 ⊎ (half ≡ 1) × (925 < power) × (m ≡ 2 ^ 23) → HasMantissa binary32 m (power - 925) power half
is_short_mantissa m power half some short least low_power normal edge plain = record {
  some = some;
  short = short;
  normal = λ h. normal (omega (arith, h));
  fits = lt_of_lt_of_le (shl_lt {a = m} 24 (power - 925) short) (pow_mono {i = 24 + (power - 925)} {j = 277} (omega (arith, low_power)));
  at = omega (arith, least);
  edge = λ h e. edge (omega (arith, h)) e;
  plain = past plain;
}
  where
    past : half ≡ 2 ⊎ (half ≡ 1) × (925 < power) × (m ≡ 2 ^ 23) → half ≡ 2 ⊎ (half ≡ 1) × (0 < power - 925) × (m ≡ 2 ^ 23)
    past (inl e) = inl e
    past (inr e) = inr (e.0, omega (arith, e.1), e.2)

zero_short_reads : ReadsAs binary32 0 (0 * 10 ^ 0) (10 ^ 0)
unfolding round
zero_short_reads = (refl, refl)

pub zero_short : (steps : ℕ) → steps ≡ 0 → IsShortest binary32 steps 0 0 0
zero_short steps z = subst (λ x. IsShortest binary32 x 0 0 0) (sym z) (record {
  reads = zero_short_reads;
  fewest = λ other more less r k h. absurd (omega (arith, h, pow_some k));
  nearest = λ other more less r short. omega arith;
  greater = λ other more less r short e.
      let far : far_off 0 (other * 10 ^ more) (10 ^ less) ≡ other * 10 ^ more * 2 ^ 1074 = omega arith in
      elim (eq-zero-or-pos (other * 10 ^ more)) [
        | inl n ↦ omega (arith, n)
        | inr p ↦ absurd (omega (arith, e, far, mul-pos p (pow_pos 1074)))
      ];
})
