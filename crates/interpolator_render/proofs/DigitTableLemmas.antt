-- Tables of digits: of the numbers below 100, two by two, and of base sixteen.
use Rattle.std.proofs.Common.{◌≡◌, ℕ, zero, suc, ◌+◌, ◌-◌, ◌*◌, ◌/◌, ◌%◌, ◌<◌, Bool, true, false}
use Rattle.std.proofs.Common.{◌&&◌, T, eqb, get_or, inl, inr, arith, eq-zero-or-pos, eqb→eq}
use Rattle.std.specs.Fmt.{digit_glyph}
use lib.Ieee.Fits.{and_l, and_r}
use Rattle.interpolator_render.specs.declared.digit_tables.TheConstants.{PAIRS, SMALL_DIGITS}
use Rattle.interpolator_render.specs.declared.digit_tables.TheConstants.{CAPITAL_DIGITS}

-- the test holds of all numbers below this one
abbrev pub holds_below : (ℕ → Bool) → ℕ → Bool
holds_below test zero = true
holds_below test (suc n) = test n && holds_below test n

pub at_below : (test : ℕ → Bool) (n p : ℕ) → T (holds_below test n) → p < n → T (test p)
at_below test zero p t h = absurd (omega arith)
at_below test (suc n) p t h = elim (eq-zero-or-pos (n - p)) [
  | inl z ↦ let e : p ≡ n = omega arith in rw e (and_l _ (holds_below test n) t)
  | inr g ↦ at_below test n p (and_r _ (holds_below test n) t) (omega arith)
]

pub pair_at : (p : ℕ) → p < 100 →
    (get_or PAIRS (p * 2) 0 ≡ 48 + p / 10) × (get_or PAIRS (p * 2 + 1) 0 ≡ 48 + p % 10)
pair_at p h = let both = at_below (λ n. eqb (get_or PAIRS (n * 2) 0) (48 + n / 10)
    && eqb (get_or PAIRS (n * 2 + 1) 0) (48 + n % 10)) 100 p tt h in
    (eqb→eq _ _ (and_l _ _ both), eqb→eq _ _ (and_r _ _ both))

pub small_at : (d : ℕ) → d < 16 → get_or SMALL_DIGITS d 0 ≡ digit_glyph false d
small_at d h = eqb→eq _ _
    (at_below (λ n. eqb (get_or SMALL_DIGITS n 0) (digit_glyph false n)) 16 d tt h)

pub capital_at : (d : ℕ) → d < 16 → get_or CAPITAL_DIGITS d 0 ≡ digit_glyph true d
capital_at d h = eqb→eq _ _
    (at_below (λ n. eqb (get_or CAPITAL_DIGITS n 0) (digit_glyph true n)) 16 d tt h)

pub ruleset sixteen_digits = (small_at, capital_at)
