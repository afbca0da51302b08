-- Products with a unit, and where sums leave the range.
use Rattle.std.proofs.Common.{◌≡◌, ◌≢◌, ◌+◌, ◌-◌, ◌*◌, ◌^◌, ◌<◌, ◌≤◌, ◌∙◌, ℕ, zero, suc, ◌⊎◌, inl}
use Rattle.std.proofs.Common.{inr, refl, sym, ap, subst, arith, pow-add, ℤ, pos, negsuc, ◌+ℤ◌, ◌-ℤ◌}
use Rattle.std.proofs.Common.{◌*ℤ◌, ◌≤ℤ◌, ◌<ℤ◌, neg_ℤ}
use Rattle.std.proofs.Math.IntN.{suc_ℤ, suc_ℤ-*ℤ, zero-*ℤ}
use Rattle.std.proofs.Math.Nat.{le-mul_of_pos_right, mod-lt, mul_assoc, mul-le-mul_left}
use Rattle.std.proofs.lemmas.{Nat.div-add-mod', Bool.cases_lt, Int.ints, Int.by_lt_z}
use Rattle.std.specs.Int.{int_div_euclid, int_rem_euclid, int_pow, w128}
use Rattle.std.specs.Prelude.{◌↔◌, FitsSigned, MatchOption, Option, None, Some, SomeIff}
use Rattle.interpolator.specs.DecimalSums.{HaveSameValue, IsRescaled}
use Rattle.interpolator.specs.{DecimalTexts.decimal_of, declared.decimal.Decimal.Decimal}

-- ---- products

next_is : (a : ℤ) → suc_ℤ a ≡ a +ℤ pos 1
next_is (pos n) = omega (arith, ints)
next_is (negsuc zero) = refl
next_is (negsuc (suc n)) = omega (arith, ints)

pub next_times : (a b u : ℤ) → b ≡ a +ℤ pos 1 → b *ℤ u ≡ a *ℤ u +ℤ u
next_times a b u e = rw (e, sym (next_is a)) (suc_ℤ-*ℤ a u)

pub times_sum : (a b u : ℤ) → (a +ℤ b) *ℤ u ≡ a *ℤ u +ℤ b *ℤ u
times_sum a (pos zero) u =
    let same : a +ℤ pos 0 ≡ a = omega (arith, ints) in
    rw same (omega (arith, ints, zero-*ℤ u))
times_sum a (pos (suc n)) u =
    let one = next_times (a +ℤ pos n) (a +ℤ pos (suc n)) u (omega (arith, ints)) in
    let two = next_times (pos n) (pos (suc n)) u (omega (arith, ints)) in
    omega (arith, ints, one, two, times_sum a (pos n) u)
times_sum a (negsuc zero) u =
    let one = next_times (a +ℤ negsuc zero) a u (omega (arith, ints)) in
    let two = next_times (negsuc zero) (pos zero) u (omega (arith, ints)) in
    omega (arith, ints, one, two, zero-*ℤ u)
times_sum a (negsuc (suc n)) u =
    let one = next_times (a +ℤ negsuc (suc n)) (a +ℤ negsuc n) u (omega (arith, ints)) in
    let two = next_times (negsuc (suc n)) (negsuc n) u (omega (arith, ints)) in
    omega (arith, ints, one, two, times_sum a (negsuc n) u)

pub times_difference : (a b u : ℤ) → (a -ℤ b) *ℤ u ≡ a *ℤ u -ℤ b *ℤ u
times_difference a b u =
    let whole : a -ℤ b +ℤ b ≡ a = omega (arith, ints) in
    let sum = times_sum (a -ℤ b) b u in
    let same : (a -ℤ b +ℤ b) *ℤ u ≡ a *ℤ u = ap (λ x. x *ℤ u) whole in
    omega (arith, ints, sum, same)

pub times_up : (a u : ℤ) → pos 0 ≤ℤ a → pos 0 <ℤ u → a ≤ℤ (a *ℤ u)
times_up (pos n) (pos m) h k =
    let more : n ≤ n * m = le-mul_of_pos_right n (omega (arith, ints)) in omega (arith, ints, more)
times_up (pos n) (negsuc m) h k = absurd (omega (arith, ints))
times_up (negsuc n) u h k = absurd (omega (arith, ints))

pub times_down : (a u : ℤ) → a ≤ℤ pos 0 → pos 0 <ℤ u → (a *ℤ u) ≤ℤ a
times_down (pos zero) u h k = omega (arith, ints, zero-*ℤ u)
times_down (pos (suc n)) u h k = absurd (omega (arith, ints))
times_down (negsuc n) (pos m) h k =
    let more : suc n ≤ suc n * m = le-mul_of_pos_right (suc n) (omega (arith, ints)) in
    omega (arith, ints, more)
times_down (negsuc n) (negsuc m) h k = absurd (omega (arith, ints))

pub negated_times : (a u : ℤ) → neg_ℤ a *ℤ u ≡ neg_ℤ (a *ℤ u)
negated_times a u =
    let e : pos 0 -ℤ a ≡ neg_ℤ a = omega (arith, ints) in
    let f : (pos 0 -ℤ a) *ℤ u ≡ neg_ℤ a *ℤ u = ap (λ x. x *ℤ u) e in
    omega (arith, ints, f, times_difference (pos 0) a u, zero-*ℤ u)

-- a multiple of a unit that is less than one is none
small_multiple : (d u : ℤ) → pos 0 <ℤ u → pos 0 ≤ℤ (d *ℤ u) → (d *ℤ u) <ℤ u → d ≡ pos 0
small_multiple (pos zero) u some low high = refl
small_multiple (pos (suc n)) u some low high =
    let one = next_times (pos n) (pos (suc n)) u (omega (arith, ints)) in
    absurd (omega (arith, ints, one, times_up (pos n) u (omega (arith, ints)) some))
small_multiple (negsuc n) u some low high =
    absurd (omega (arith, ints, times_down (negsuc n) u (omega (arith, ints)) some))

cancel : (a b u : ℤ) → pos 0 <ℤ u → a *ℤ u ≡ b *ℤ u → a ≡ b
cancel a b u some e =
    let apart = times_difference a b u in
    let none = small_multiple (a -ℤ b) u some (omega (arith, ints)) (omega (arith, ints)) in
    omega (arith, ints, none)

-- what is a multiple of a unit has no rest
pub no_rest : (f z q u r : ℤ) → pos 0 <ℤ u → pos 0 ≤ℤ r → r <ℤ u →
    z ≡ q *ℤ u +ℤ r → f *ℤ u ≡ z → r ≡ pos 0
no_rest f z q u r some low high split whole =
    let apart = times_difference f q u in
    let none = small_multiple (f -ℤ q) u some (omega (arith, ints)) (omega (arith, ints)) in
    let times : (f -ℤ q) *ℤ u ≡ pos 0 *ℤ u = ap (λ x. x *ℤ u) none in
    omega (arith, ints, apart, times, zero-*ℤ u)

-- ---- a whole and a rest

pub euclid : (z u : ℤ) → pos 0 <ℤ u → z ≡ int_div_euclid z u *ℤ u +ℤ int_rem_euclid z u
euclid (pos a) (pos b) h = omega (arith, ints, div-add-mod' a b)
euclid (negsuc a) (pos b) h =
    let some : 0 < b = omega (arith, ints) in
    omega (arith, ints, div-add-mod' a b, mod-lt a some)
euclid z (negsuc b) h = absurd (omega (arith, ints))

-- a whole out of range does not come back by less than a unit
pub sum_out : (s u r : ℤ) → pos 0 ≤ℤ r → r <ℤ u →
    ¬ (FitsSigned w128 s) → ¬ (FitsSigned w128 (s *ℤ u +ℤ r))
sum_out s u r low high out fits = by_lt_z s (pos 0)
    (λ neg. out (omega (
      arith,
      ints,
      next_times s (s +ℤ pos 1) u refl,
      times_down (s +ℤ pos 1) u (omega (arith, ints)) (omega (arith, ints)),
    )))
    (λ none. out (omega (arith, ints, times_up s u none (omega (arith, ints)))))

pub difference_out : (s u r : ℤ) → pos 0 ≤ℤ r → r <ℤ u →
    ¬ (FitsSigned w128 s) → ¬ (FitsSigned w128 (s *ℤ u -ℤ r))
difference_out s u r low high out fits = by_lt_z (pos 0) s
    (λ more. out (omega (
      arith,
      ints,
      next_times (s -ℤ pos 1) s u (omega (arith, ints)),
      times_up (s -ℤ pos 1) u (omega (arith, ints)) (omega (arith, ints)),
    )))
    (λ none. out (omega (arith, ints, times_down s u none (omega (arith, ints)))))

-- ---- powers of ten

pow_some : (k : ℕ) → 1 ≤ 10 ^ k
pow_some zero = omega arith
pow_some (suc k) =
    let e : 10 ^ (k + 1) ≡ 10 ^ k * 10 = pow-add 10 k 1 in
    let f : suc k ≡ k + 1 = omega arith in rw f (omega (arith, e, pow_some k))

pub unit_some : (k : ℕ) → pos 0 <ℤ int_pow (pos 10) k
unit_some k = omega (arith, ints, pow_some k)

pow_up : (k m : ℕ) → 10 ^ k ≤ 10 ^ (k + m)
pow_up k m = rw (pow-add 10 k m) (le-mul_of_pos_right (10 ^ k) (pow_some m))

-- a power of ten out of range is past it by far
pub pow_out : (k : ℕ) → ¬ (FitsSigned w128 (int_pow (pos 10) k)) → 10 ^ 39 ≤ 10 ^ k
pow_out k out = by (cases_lt k 39)
  where
    few_fit : (m : ℕ) → 38 ≡ k + m → FitsSigned w128 (int_pow (pos 10) k)
    few_fit m e =
        let small : 10 ^ k ≤ 10 ^ 38 = subst (λ n. 10 ^ k ≤ 10 ^ n) (sym e) (pow_up k m) in
        omega (arith, ints, small)

    by : (k < 39) ⊎ (39 ≤ k) → 10 ^ 39 ≤ 10 ^ k
    by (inl few) = absurd (out (few_fit (38 - k) (omega arith)))
    by (inr many) = let e : k ≡ 39 + (k - 39) = omega arith in rw e (pow_up 39 (k - 39))

-- so are its products, by more than any low digits bring back
pub unit_out : (h l : ℤ) (k : ℕ) → h ≢ pos 0 → ¬ (FitsSigned w128 (int_pow (pos 10) k)) →
    FitsSigned w128 l → ¬ (FitsSigned w128 (h *ℤ int_pow (pos 10) k +ℤ l))
unit_out (pos zero) l k some out low fits = some refl
unit_out (pos (suc n)) l k some out low fits =
    let far = pow_out k out in
    let more : 10 ^ k ≤ 10 ^ k * suc n = le-mul_of_pos_right (10 ^ k) (omega arith) in
    omega (arith, ints, far, more)
unit_out (negsuc n) l k some out low fits =
    let far = pow_out k out in
    let more : 10 ^ k ≤ 10 ^ k * suc n = le-mul_of_pos_right (10 ^ k) (omega arith) in
    omega (arith, ints, far, more)

pub unit_out_less : (h l : ℤ) (k : ℕ) → h ≢ pos 0 → ¬ (FitsSigned w128 (int_pow (pos 10) k)) →
    FitsSigned w128 l → ¬ (FitsSigned w128 (h *ℤ int_pow (pos 10) k -ℤ l))
unit_out_less (pos zero) l k some out low fits = some refl
unit_out_less (pos (suc n)) l k some out low fits =
    let far = pow_out k out in
    let more : 10 ^ k ≤ 10 ^ k * suc n = le-mul_of_pos_right (10 ^ k) (omega arith) in
    omega (arith, ints, far, more)
unit_out_less (negsuc n) l k some out low fits =
    let far = pow_out k out in
    let more : 10 ^ k ≤ 10 ^ k * suc n = le-mul_of_pos_right (10 ^ k) (omega arith) in
    omega (arith, ints, far, more)

-- the negation of a number is out of range only if the number is far from zero
pub negated_out : (l r : ℤ) (k : ℕ) → 0 < k → FitsSigned w128 l → FitsSigned w128 r →
    ¬ (FitsSigned w128 (neg_ℤ r)) → ¬ (FitsSigned w128 (l -ℤ r *ℤ int_pow (pos 10) k))
negated_out l (pos n) k some low high out fits = out (omega (arith, ints))
negated_out l (negsuc n) k some low high out fits =
    let e : k ≡ 1 + (k - 1) = omega arith in
    let ten : 10 ≤ 10 ^ k = subst (λ m. 10 ≤ 10 ^ m) (sym e) (pow_up 1 (k - 1)) in
    let more : suc n * 10 ≤ suc n * 10 ^ k = mul-le-mul_left (suc n) ten in
    out (omega (arith, ints, more))

-- nothing is a number if it has more zeros at its end than any has
pub no_fewer : (u : ℤ) (k : ℕ) → u ≢ pos 0 → ¬ (FitsSigned w128 (int_pow (pos 10) k)) →
    FitsSigned w128 u → (f : ℤ) → ¬ (f *ℤ int_pow (pos 10) k ≡ u)
no_fewer u k some out fits f e =
    unit_out f (pos 0) k (λ none. some (sym e ∙ ap (λ x. x *ℤ int_pow (pos 10) k) none
    ∙ zero-*ℤ (int_pow (pos 10) k))) out (omega (arith, ints)) (omega (arith, ints))

-- ---- scales

times_more : (f : ℤ) (a b : ℕ) → (f *ℤ pos a) *ℤ pos b ≡ f *ℤ pos (a * b)
times_more (pos n) a b = grind (arith, ints, mul_assoc n a b)
times_more (negsuc n) a b = grind (arith, ints, mul_assoc (suc n) a b)

-- one scale above another
scale_up : (f : ℤ) (few many : ℕ) → few ≤ many →
    (f *ℤ int_pow (pos 10) (many - few)) *ℤ int_pow (pos 10) few ≡ f *ℤ int_pow (pos 10) many
scale_up f few many h =
    let e : many ≡ (many - few) + few = omega arith in
    let p : 10 ^ many ≡ 10 ^ (many - few) * 10 ^ few =
    ap (λ n. 10 ^ n) e ∙ pow-add 10 (many - few) few in
    times_more f (10 ^ (many - few)) (10 ^ few) ∙ ap (λ n. f *ℤ pos n) (sym p)

-- the same number with fewer digits after the point, or more
pub same_fewer : (z f : ℤ) (few many : ℕ) → few ≤ many →
    f *ℤ int_pow (pos 10) (many - few) ≡ z → z *ℤ int_pow (pos 10) few ≡ f *ℤ int_pow (pos 10) many
same_fewer z f few many h e =
    ap (λ x. x *ℤ int_pow (pos 10) few) (sym e) ∙ scale_up f few many h

pub fewer_same : (z f : ℤ) (few many : ℕ) → few ≤ many →
    z *ℤ int_pow (pos 10) few ≡ f *ℤ int_pow (pos 10) many → f *ℤ int_pow (pos 10) (many - few) ≡ z
fewer_same z f few many h e =
    cancel (f *ℤ int_pow (pos 10) (many - few)) z (int_pow (pos 10) few) (unit_some few)
    (scale_up f few many h ∙ sym e)

pub match_map : {P Q : Type 0} {F G : ℤ → Type 0} (r : Option ℤ) → (P → Q) →
    ((x : ℤ) → F x → G x) → MatchOption r P F → MatchOption r Q G
match_map None p f m = p m
match_map (Some x) p f m = f x m

-- more digits after the point
pub more_digits : (r : Option ℤ) (u : ℤ) (few many : ℕ) → few ≤ many →
    SomeIff r (FitsSigned w128 (u *ℤ int_pow (pos 10) (many - few) +ℤ pos 0))
    (u *ℤ int_pow (pos 10) (many - few) +ℤ pos 0) →
    MatchOption r
    ((v : ℤ) → FitsSigned w128 v → ¬ (u *ℤ int_pow (pos 10) many ≡ v *ℤ int_pow (pos 10) few))
    (λ v. u *ℤ int_pow (pos 10) many ≡ v *ℤ int_pow (pos 10) few)
more_digits None u few many h out = λ v fits e.
    let is : u *ℤ int_pow (pos 10) (many - few) ≡ v = fewer_same v u few many h (sym e) in
    out (omega (arith, ints))
more_digits (Some x) u few many h (fits, is) =
    sym (same_fewer x u few many h (omega (arith, ints)))

-- a number at its own scale, and at the greater of two
pub own_scale : (u : ℤ) (m b : ℕ) → m ≡ b → u *ℤ int_pow (pos 10) (m - b) ≡ u
own_scale u m b e =
    let none : m - b ≡ 0 = omega arith in
    let once : u *ℤ int_pow (pos 10) 0 ≡ u = omega (arith, ints) in
    ap (λ (n : ℕ). u *ℤ int_pow (pos 10) n) none ∙ once

pub greater_scale : (u : ℤ) (m b c : ℕ) → m ≡ b →
    u *ℤ int_pow (pos 10) (m - c) ≡ u *ℤ int_pow (pos 10) (b - c)
greater_scale u m b c e = ap (λ n. u *ℤ int_pow (pos 10) (n - c)) e

abbrev inside : Decimal → Option Decimal → Decimal
inside other None = other
inside other (Some decimal) = decimal

-- there is one such decimal at a scale
pub only_rescaled : (number : Decimal) (scale : ℕ) (v : ℤ) → FitsSigned w128 v →
    HaveSameValue number (decimal_of v scale) → (decimal : Decimal) →
    IsRescaled number scale decimal ↔ (Some (decimal_of v scale) ≡ Some decimal)
only_rescaled number scale v within same decimal = (forth, back)
  where
    forth : IsRescaled number scale decimal → Some (decimal_of v scale) ≡ Some decimal
    forth (as_many, fits, equal) =
        let there : number.units *ℤ int_pow (pos 10) scale
        ≡ decimal.units *ℤ int_pow (pos 10) number.scale =
        subst (λ s. number.units *ℤ int_pow (pos 10) s
        ≡ decimal.units *ℤ int_pow (pos 10) number.scale) as_many equal in
        let one = cancel v decimal.units (int_pow (pos 10) number.scale) (unit_some number.scale)
        (sym same ∙ there) in
        rw (one, sym as_many) refl

    back : Some (decimal_of v scale) ≡ Some decimal → IsRescaled number scale decimal
    back is = subst (λ d. IsRescaled number scale d) (ap (inside decimal) is) (refl, within, same)
