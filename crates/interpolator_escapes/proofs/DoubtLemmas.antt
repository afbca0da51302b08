-- A byte of little doubt begins no character that may be escaped.
use Rattle.std.proofs.Common.{◌≡◌, ◌≤◌, ℕ, ◌<◌, Bool, true, false, ◌||◌, ◌&&◌, not, zero, suc}
use Rattle.std.proofs.Common.{arith, refl, ◌-◌, ◌+◌, List, get_or, leb, le-leb, max, subst, T, inl}
use Rattle.std.proofs.Common.{inr, eq-zero-or-pos}
use Rattle.std.proofs.{Math.Nat.le-max_left, Math.Nat.le-max_right, lemmas.Bool.cases_lt}
use lib.Ieee.Fits.{and_l, and_r}
use Rattle.interpolator_escapes.specs.Search.{ArePlain, may_begin_escaped, doubt, most_plain}
use Rattle.interpolator_escapes.specs.declared.escape.Escape.{Escape}
use Rattle.interpolator_escapes.specs.declared.escape.Escape.TheVariants.{Line, Html, Csv, Json}
use Rattle.interpolator_escapes.specs.declared.escape.Escape.TheVariants.{Shell}

-- ---- tested for each byte

-- a test holds of each number below n
abbrev holds_below : (ℕ → Bool) → ℕ → Bool
holds_below test zero = true
holds_below test (suc n) = test n && holds_below test n

at_below : (test : ℕ → Bool) (n p : ℕ) → T (holds_below test n) → p < n → T (test p)
at_below test zero p t h = absurd (omega arith)
at_below test (suc n) p t h = elim (eq-zero-or-pos (n - p)) [
  | inl z ↦ let e : p ≡ n = omega arith in rw e (and_l _ (holds_below test n) t)
  | inr g ↦ at_below test n p (and_r _ (holds_below test n) t) (omega arith)
]

-- what is tested: more doubt, or none that may begin one
reported : (x y : Bool) → T (not x || not y) → x ≡ true → y ≡ false
reported false y t h = absurd (cc)
reported true true t h = absurd t
reported true false t h = refl

abbrev reported_test : Escape → ℕ → Bool
reported_test escape n = not (leb (doubt escape n) (most_plain escape)) || not (may_begin_escaped escape n)

by_test : (escape : Escape) (byte : ℕ) → byte < 256 → doubt escape byte ≤ most_plain escape
    → T (reported_test escape byte) → may_begin_escaped escape byte ≡ false
by_test escape byte low h t =
    reported (leb (doubt escape byte) (most_plain escape)) (may_begin_escaped escape byte) t
    (le-leb _ _ h)

pub doubted : (escape : Escape) (byte : ℕ) → byte < 256 → doubt escape byte ≤ most_plain escape
    → may_begin_escaped escape byte ≡ false
doubted Line byte low h = by_test Line byte low h (at_below (reported_test Line) 256 byte tt low)
doubted Html byte low h = by_test Html byte low h (at_below (reported_test Html) 256 byte tt low)
doubted Csv byte low h = by_test Csv byte low h (at_below (reported_test Csv) 256 byte tt low)
doubted Json byte low h = by_test Json byte low h (at_below (reported_test Json) 256 byte tt low)
doubted Shell byte low h = by_test Shell byte low h (at_below (reported_test Shell) 256 byte tt low)

-- one byte more of no greater doubt
pub one_more : (escape : Escape) (bytes : List ℕ) (i most now after : ℕ)
    → get_or bytes i 0 < 256 → now ≡ doubt escape (get_or bytes i 0) → after ≡ max most now
    → (most ≤ most_plain escape → ArePlain escape bytes i) → after ≤ most_plain escape
    → ArePlain escape bytes (i + 1)
one_more escape bytes i most now after low e big plain h k l =
    let least : most ≤ after = rw big (le-max_left most now) in
    let same : now ≤ after = rw big (le-max_right most now) in
    let reported : doubt escape (get_or bytes i 0) ≤ most_plain escape = subst (λ d. d ≤ most_plain escape) e (omega (arith, same, h)) in
    elim (cases_lt k i) [
      | inl before ↦ plain (omega (arith, least, h)) k before
      | inr later ↦
          let here : i ≡ k = omega (arith, later, l) in
          subst (λ j. may_begin_escaped escape (get_or bytes j 0) ≡ false) here
          (doubted escape (get_or bytes i 0) low reported)
    ]
