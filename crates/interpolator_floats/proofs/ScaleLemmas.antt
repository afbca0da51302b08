-- The scale of a float's shortest digits, by computation at each exponent.
use Rattle.std.proofs.Common.{◌≡◌, ℕ, zero, suc, ◌<◌, ◌≤◌, ◌-◌, ◌+◌, ◌*◌, ◌/◌, ◌^◌, Bool, true, false, T, ◌&&◌, leb}
use Rattle.std.proofs.Common.{arith, eq-zero-or-pos, inl, inr, leb→le}
use Rattle.std.proofs.Math.Nat.{pow-le-pow_right, mul-le-mul, div-lt_iff_lt-mul}
use lib.Pow.{pow_pos}

abbrev pub holds_below : (ℕ → Bool) → ℕ → Bool
holds_below test zero = true
holds_below test (suc n) = test n && holds_below test n

pub and_l : (a b : Bool) → T (a && b) → T a
and_l true b t = tt
and_l false b t = t

pub and_r : (a b : Bool) → T (a && b) → T b
and_r true b t = t
and_r false b t = absurd t

pub at_below : (test : ℕ → Bool) (n p : ℕ) → T (holds_below test n) → p < n → T (test p)
at_below test zero p t h = absurd (omega arith)
at_below test (suc n) p t h = elim (eq-zero-or-pos (n - p)) [
  | inl z ↦ let e : p ≡ n = omega arith in rw e (and_l _ (holds_below test n) t)
  | inr g ↦ at_below test n p (and_r _ (holds_below test n) t) (omega arith)
]

abbrev scale_of : ℕ → ℕ
scale_of down = (down * 315653 + 1048575) / 1048576

abbrev is_scale : ℕ → Bool
is_scale k = leb (2 ^ suc k + 1) (10 ^ scale_of (suc k)) && leb (10 ^ scale_of (suc k) + 1) (10 * 2 ^ suc k)

scale_at : (k : ℕ) → k < 69 → (2 ^ suc k + 1 ≤ 10 ^ scale_of (suc k)) × (10 ^ scale_of (suc k) + 1 ≤ 10 * 2 ^ suc k)
scale_at k h =
    let both = at_below is_scale 69 k tt h in
    (leb→le _ _ (and_l _ _ both), leb→le _ _ (and_r _ _ both))

pub scale_finer : (down : ℕ) → 0 < down → down ≤ 69 → 2 ^ down < 10 ^ ((down * 315653 + 1048575) / 1048576)
scale_finer zero h w = absurd (omega arith)
scale_finer (suc k) h w = omega (arith, (scale_at k (omega arith)).0)

pub scale_least : (down : ℕ) → 0 < down → down ≤ 69 → 10 ^ ((down * 315653 + 1048575) / 1048576) < 10 * 2 ^ down
scale_least zero h w = absurd (omega arith)
scale_least (suc k) h w = omega (arith, (scale_at k (omega arith)).1)

pub ruleset scales = (scale_finer, scale_least)

-- ---- sizes

pub ten_small : (k : ℕ) → k ≤ 21 → 10 ^ k ≤ 10 ^ 21
ten_small k h = pow-le-pow_right (omega arith) h

pub two_small : (k : ℕ) → k ≤ 69 → 2 ^ k ≤ 2 ^ 69
two_small k h = pow-le-pow_right (omega arith) h

pub four_some : (k : ℕ) → 0 < 4 * 2 ^ k
four_some k = let p = pow_pos k in omega arith

pub number_fits : (m k : ℕ) → m < 2 ^ 53 → k ≤ 21 → m * 4 * 10 ^ k < 2 ^ 127
number_fits m k h w =
    let a : m * 4 ≤ 2 ^ 55 = omega arith in
    let p : m * 4 * 10 ^ k ≤ 2 ^ 55 * 10 ^ 21 = mul-le-mul a (ten_small k w) in
    omega arith

-- the whole count is short
pub cut_short : (m k down : ℕ) → m < 2 ^ 53 → 10 ^ k < 10 * 2 ^ down → m * 4 * 10 ^ k / (4 * 2 ^ down) ≤ 2 ^ 60
cut_short m k down h w =
    let a : m * 4 ≤ 2 ^ 55 = omega arith in
    let b : 10 ^ k ≤ 10 * 2 ^ down = omega arith in
    let p : m * 4 * 10 ^ k ≤ 2 ^ 55 * (10 * 2 ^ down) = mul-le-mul a b in
    let some = pow_pos down in
    let q : m * 4 * 10 ^ k < (2 ^ 60 + 1) * (4 * 2 ^ down) = omega (arith, p, some) in
    let r : m * 4 * 10 ^ k / (4 * 2 ^ down) < 2 ^ 60 + 1 = (div-lt_iff_lt-mul (four_some down)).1 q in
    omega (arith, r)

pub ruleset units = (two_small, four_some)

pub ruleset scaled = (ten_small, two_small, four_some, number_fits, cut_short)
