-- The digits of a number in a buffer, written from its end: one, two or four more.
use Rattle.std.proofs.Common.{◌≡◌, ◌≢◌, ℕ, ◌<◌, ◌≤◌, ◌+◌, ◌-◌, ◌/◌, ◌%◌, ◌^◌, Bool, false, List, []}
use Rattle.std.proofs.Common.{◌∷◌, ◌++◌, length, take, drop, map, set, get_or, refl, sym, ◌∙◌, ap}
use Rattle.std.proofs.Common.{arith, append_assoc, length-append, length-drop, length-set, inl, inr}
use Rattle.std.proofs.Common.{take-take, IsAscii, mod-eq_of_lt, eq-zero-or-pos, le-div_iff_mul-le}
use Rattle.std.proofs.Common.{append-nil}
use Rattle.std.proofs.lemmas.Int.Digits.{length-digits_of-le, digits_of_step, length-digits_of_step}
use Rattle.std.proofs.lemmas.Int.Digits.{all_below_base_digits_of}
use Rattle.std.proofs.lemmas.List.{map-append, drop-set, length-map, take-set, take-set-le}
use Rattle.std.proofs.{lemmas.Bool.Decides.nat_tests, lemmas.Str.IsUtf8-from_ascii}
use Rattle.std.proofs.{Math.Nat.pow-le-pow_left, Math.Nat.div-eq_of_lt, Math.Seq.drop-length}
use Rattle.std.specs.{Fmt.digit_glyph, Int.Digits.digits_of, Int.Digits.AllBelowBase}
use Rattle.interpolator_digits.specs.Digits.{digit_text}

-- ---- the text of a number

pub digit_text_zero : (base : ℕ) (upper : Bool) (n : ℕ) → n ≡ 0 → digit_text base upper n ≡ 48 ∷ []
unfolding digit_text
digit_text_zero base upper n e = rw e refl

pub digit_text_map : (base n : ℕ) (upper : Bool) → 0 < n →
    digit_text base upper n ≡ map (digit_glyph upper) (digits_of base n)
unfolding digit_text
digit_text_map base n upper h = grind (arith, nat_tests)

-- a number has a digit at least
pub digit_text_some : (base n : ℕ) (upper : Bool) → 2 ≤ base → 0 < length (digit_text base upper n)
unfolding digit_text
digit_text_some base n upper b = grind (arith, nat_tests, length-map, length-digits_of_step)

-- a number below a power of the base has at most as many digits as the power says
pub length-digit_text-le : (base k n : ℕ) (upper : Bool) → 2 ≤ base → 0 < k → n < base ^ k →
    length (digit_text base upper n) ≤ k
unfolding digit_text
length-digit_text-le base k n upper b p h =
    grind (arith, nat_tests, length-map, length-digits_of-le)

-- the buffer has room for the digits of any number
pub text_fits : (base n : ℕ) (upper : Bool) → 2 ≤ base → n < 2 ^ 128 →
    length (digit_text base upper n) ≤ 128
text_fits base n upper b s =
    let wide = pow-le-pow_left b 128 in grind (arith, length-digit_text-le)

-- and of digits only zero is `0`
pub glyph_some : (d : ℕ) (upper : Bool) → 0 < d → digit_glyph upper d ≢ 48
glyph_some d upper h = grind (arith, nat_tests)

-- ---- the buffer

-- nothing lies after the buffer
pub nothing_after : (out : List ℕ) (size : ℕ) → length out ≡ size → drop size out ≡ []
nothing_after out size e = rw (← e) (drop-length out)

-- ---- ASCII

IsAscii-glyphs : (base : ℕ) (upper : Bool) (ds : List ℕ) → base ≤ 16 → AllBelowBase base ds →
    IsAscii (map (digit_glyph upper) ds)
IsAscii-glyphs base upper [] h a = λ i. omega arith
IsAscii-glyphs base upper (d ∷ ds) h a =
    grind (arith, nat_tests, IsAscii-glyphs base upper ds h a.1)

pub digits_ascii : (base : ℕ) (upper : Bool) (n : ℕ) → 2 ≤ base → base ≤ 16 →
    IsAscii (digit_text base upper n)
unfolding digit_text
digits_ascii base upper n l h =
    grind (arith, nat_tests, IsAscii-glyphs, all_below_base_digits_of)

pub ruleset ascii_texts = IsUtf8-from_ascii

-- ---- the text of a number in front of a place

-- more than one digit: those of the quotient, and the remainder
pub digit_text_step : (base n : ℕ) (upper : Bool) → 2 ≤ base → base ≤ n →
    digit_text base upper n ≡ digit_text base upper (n / base) ++ digit_glyph upper (n % base) ∷ []
digit_text_step base n upper b h =
    grind (arith, le-div_iff_mul-le, digit_text_map, digits_of_step, map-append)

pub digit_count_step : (base n : ℕ) (upper : Bool) → 2 ≤ base → base ≤ n →
    length (digit_text base upper n) ≡ length (digit_text base upper (n / base)) + 1
digit_count_step base n upper b h = grind (arith, digit_text_step, length-append)

-- one digit
pub digit_text_one : (base n : ℕ) (upper : Bool) → 2 ≤ base → n < base →
    digit_text base upper n ≡ digit_glyph upper n ∷ []
unfolding digit_text
digit_text_one base n upper b h =
    grind (arith, nat_tests, digits_of_step, div-eq_of_lt, mod-eq_of_lt)

pub one_count : (base n : ℕ) (upper : Bool) → 2 ≤ base → n < base →
    length (digit_text base upper n) ≡ 1
one_count base n upper b h = grind (arith, digit_text_one)

-- one digit more in front
pub low_step : (base n at : ℕ) (upper : Bool) (out : List ℕ) → 2 ≤ base → base ≤ n → 0 < at →
    at ≤ length out →
    digit_text base upper (n / base) ++ drop (at - 1)
    (set out (at - 1) (digit_glyph upper (n % base))) ≡ digit_text base upper n ++ drop at out
low_step base n at upper out b h p l = grind (arith, drop-set, digit_text_step, append_assoc)

pub ruleset last_steps = (low_step, take-set)

pub led : (text after there : List ℕ) (first : ℕ) → 0 < length text →
    first ∷ there ≡ text ++ after → (text ≡ first ∷ drop 1 text) × (there ≡ drop 1 text ++ after)
led text after there first h e = grind arith

-- digits left of a number, written after its first: the whole but for that
pub low_written : (base n rest first at end : ℕ) (upper : Bool) (new mid old : List ℕ) → 2 ≤ base →
    digit_text base upper rest ≡ digit_glyph upper first ∷ drop 1 (digit_text base upper rest) →
    new ≡ drop 1 (digit_text base upper rest) ++ drop at mid →
    digit_text base upper rest ++ drop at mid ≡ digit_text base upper n ++ drop end old →
    (digit_text base upper n ≡ digit_glyph upper first ∷ drop 1 (digit_text base upper n))
    × (new ≡ drop 1 (digit_text base upper n) ++ drop end old)
low_written base n rest first at end upper new mid old b leads written all =
    grind (arith, led, digit_text_some)

-- all digits but the first
pub low_count : (base n : ℕ) (upper : Bool) → 2 ≤ base →
    length (drop 1 (digit_text base upper n)) + 1 ≡ length (digit_text base upper n)
low_count base n upper b = grind (arith, digit_text_some, length-drop)

-- for digits written one at a time
pub ruleset one_steps = (digit_count_step, one_count, low_count)

-- ---- two digits at a time

-- the two bytes of a pair
low_of_pair : (n : ℕ) → digit_glyph false (n % 10) ≡ 48 + n % 100 % 10
low_of_pair n = grind (arith, nat_tests)

high_of_pair : (n : ℕ) → digit_glyph false (n / 10 % 10) ≡ 48 + n % 100 / 10
high_of_pair n = grind (arith, nat_tests)

-- two digits more in front
pub pair_step : (n at : ℕ) (out : List ℕ) → 100 ≤ n → 2 ≤ at → at ≤ length out →
    digit_text 10 false (n / 100) ++ drop (at - 2)
    (set (set out (at - 1) (48 + n % 100 % 10)) (at - 2) (48 + n % 100 / 10))
    ≡ digit_text 10 false n ++ drop at out
pair_step n at out h p l =
    let once = low_step 10 n at false out (omega arith) (omega arith) (omega arith) l in
    let size = length-set out (at - 1) (digit_glyph false (n % 10)) in
    let twice = low_step 10 (n / 10) (at - 1) false (set out (at - 1) (digit_glyph false (n % 10)))
    (omega arith) (omega arith) (omega arith) (omega arith) ∙ once in
    let place : at - 1 - 1 ≡ at - 2 = omega arith in
    let rest : n / 10 / 10 ≡ n / 100 = omega arith in
    rw (place, rest, low_of_pair n, high_of_pair n) at twice

pub pair_count : (n : ℕ) → 100 ≤ n → length (digit_text 10 false n)
    ≡ length (digit_text 10 false (n / 100)) + 2
pair_count n h = grind (arith, digit_count_step)

-- a number of two digits alone
pub pair_alone : (n : ℕ) → 10 ≤ n → n < 100 →
    digit_text 10 false n ≡ (48 + n / 10) ∷ (48 + n % 10) ∷ []
pair_alone n l h = grind (arith, digit_text_step, digit_text_one, nat_tests)

-- of three
pub three_alone : (n : ℕ) → 100 ≤ n → n < 1000 →
    digit_text 10 false n ≡ (48 + n / 100) ∷ (48 + n % 100 / 10) ∷ (48 + n % 100 % 10) ∷ []
three_alone n l h = grind (arith, digit_text_step, pair_alone, nat_tests)

-- and of one
pub one_alone : (n : ℕ) → n < 10 → digit_text 10 false n ≡ (48 + n) ∷ []
one_alone n h = grind (arith, digit_text_one, nat_tests)

pub take_less : (k at : ℕ) (new old : List ℕ) → k ≤ at → take at new ≡ take at old →
    take k new ≡ take k old
take_less k at new old h e = grind (arith, take-take k at new h, take-take k at old h)

pub pair_in_front : (out old : List ℕ) (at first second : ℕ) → 2 ≤ at → take at out ≡ take at old →
    take (at - 2) (set (set out (at - 1) first) (at - 2) second) ≡ take (at - 2) old
pair_in_front out old at first second h e = grind (arith, take-set-le, take_less)

-- ---- the whole number at the end of the buffer

pub text_written : (base n rest first few many : ℕ) (upper : Bool) (low wide old : List ℕ)
    (glyph : ℕ) → length old ≡ 128 → length low ≡ 128 → 1 ≤ few → few - 1 < 128 →
    glyph ≡ digit_glyph upper first →
    digit_text base upper rest ≡ digit_glyph upper first ∷ drop 1 (digit_text base upper rest) →
    drop few low ≡ drop 1 (digit_text base upper rest) ++ drop many wide →
    digit_text base upper rest ++ drop many wide ≡ digit_text base upper n ++ drop 128 old →
    drop (few - 1) (set low (few - 1) glyph) ≡ digit_text base upper n
text_written base n rest first few many upper low wide old glyph size long some within g leads l w =
    let place : few - 1 + 1 ≡ few = omega arith in
    rw (drop-set low (few - 1) glyph (omega arith), place, g, l)
    (ap (λ (x : List ℕ). x ++ drop many wide) (sym leads)
    ∙ (w ∙ rw (nothing_after old 128 size) (append-nil _)))

-- for digits written two or three at a time
pub ruleset pair_texts = (digits_ascii, pair_alone)

pub ruleset pair_steps = (pair_count, length-set, pair_in_front, pair_step)

pub ruleset wide_steps = (digit_count_step, length-set, low_step, take-set, take_less)

pub ruleset low_decimal_steps = (low_count, low_written, take_less)
