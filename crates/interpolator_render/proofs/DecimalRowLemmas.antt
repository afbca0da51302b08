-- Decimals in a row or in parts: the digits after the point, the point, and the digits before it.
use Rattle.interpolator_render.proofs.ExponentRowLemmas.{digits_before, small_glyph, decimal_digits}
use Rattle.interpolator_render.proofs.ExponentRowLemmas.{digits_row, two_digits}
use Rattle.interpolator_render.proofs.{DigitBufferLemmas.grown_twice, NumberLemmas.number_parts}
use Rattle.std.proofs.Common.{eq-zero-or-pos, length-append, if◌then◌else◌, append_assoc, replicate}
use Rattle.std.proofs.Common.{append-nil, unwrap_or, length, nat_lt, Option, false, arith, codes, ℕ}
use Rattle.std.proofs.Common.{zero, suc, drop, ap, ◌∙◌, ◌*◌, ◌/◌, ◌%◌, pow-suc, inl, inr, Bool}
use Rattle.std.proofs.Common.{List, ◌++◌, ◌==◌, ◌≡◌, ◌<◌, ◌≤◌, ◌-◌, ◌+◌, ◌^◌, min, ◌∷◌, []}
use Rattle.std.proofs.lemmas.List.{length-replicate, replicate-append-replicate}
use Rattle.std.proofs.{lemmas.Grind.common_steps, Math.Nat.pow-le-pow_right, lemmas.Bool.cases_lt}
use Rattle.std.specs.Fmt.{digit_glyph}
use Rattle.interpolator_digits.proofs.DigitLemmas.{digit_text_one, digit_text_step, digit_text_zero}
use Rattle.interpolator_digits.proofs.DigitLemmas.{length-digit_text-le}
use Rattle.interpolator_digits.proofs.ExponentLemmas.{pow_some}
use Rattle.interpolator_digits.proofs.DecimalLemmas.{length-placed, placed_none, placed_some}
use Rattle.interpolator_render.specs.declared.view.Spec.{Spec}
use Rattle.interpolator_render.specs.DigitBuffers.{Buffered, put_before}
use Rattle.interpolator_render.specs.Padding.{IsNumberLayout, IsNumberRow, fill_of, row_fill}
use Rattle.interpolator_render.specs.Padding.{padded_number}
use Rattle.interpolator_digits.specs.Decimals.{placed, after_point, split_text, scaled_tail}
use Rattle.interpolator_digits.specs.Decimals.{decimal_exponent_text, scale_of, shown_scaled}
use Rattle.interpolator_digits.specs.Digits.{digit_text}
use Rattle.interpolator_digits.specs.Exponent.{exponent_tail, mark, scientific}

-- ---- with a one before them

zero_places : (places : ℕ) → placed places 0 ≡ replicate places 48
zero_places places =
    grind (arith, common_steps, placed_some, digit_text_zero, replicate-append-replicate)

small_last : (places part : ℕ) → part < 10 →
    placed places (part / 10) ++ digit_glyph false (part % 10) ∷ [] ≡ placed (suc places) part
small_last places part h =
    let none : part / 10 ≡ 0 = omega arith in
    let same : part % 10 ≡ part = omega arith in
    grind (arith, none, same, zero_places, placed_some, digit_text_one)

more_last : (places part : ℕ) → 10 ≤ part → 0 < places →
    placed places (part / 10) ++ digit_glyph false (part % 10) ∷ [] ≡ placed (suc places) part
more_last places part h p =
    grind (arith, placed_some, digit_text_step, length-append, append_assoc)

placed_last : (places part : ℕ) → part < 10 ^ suc places →
    placed places (part / 10) ++ digit_glyph false (part % 10) ∷ [] ≡ placed (suc places) part
placed_last zero part f = small_last zero part (omega (arith, f))
placed_last (suc k) part f = elim (eq-zero-or-pos (part - 9)) [
  | inl z ↦ small_last (suc k) part (omega (arith, z))
  | inr p ↦ more_last (suc k) part (omega (arith, p)) (omega arith)
]

-- a number's digits, with zeros before them up to a count, are those after a one
led_text : (places part : ℕ) → part < 10 ^ places →
    digit_text 10 false (10 ^ places + part) ≡ 49 ∷ placed places part
led_text zero part f = grind (arith, digit_text_one, small_glyph, placed_none)
led_text (suc k) part f =
    let tens : 10 ^ suc k ≡ 10 ^ k * 10 = pow-suc 10 k in
    let quotient : (10 ^ suc k + part) / 10 ≡ 10 ^ k + part / 10 = omega (arith, tens) in
    let last : (10 ^ suc k + part) % 10 ≡ part % 10 = omega (arith, tens) in
    let rest = led_text k (part / 10) (omega (arith, f, tens)) in
    digit_text_step 10 (10 ^ suc k + part) false (omega arith) (omega (arith, tens, pow_some k))
    ∙ (λ i. digit_text 10 false (quotient i) ++ digit_glyph false (last i) ∷ [])
    ∙ ap (λ x. x ++ digit_glyph false (part % 10) ∷ []) rest
    ∙ ap (λ x. 49 ∷ x) (placed_last k part f)

pub led_pieces : (places part led : ℕ) (row all : Buffered) → part < 10 ^ places →
    led ≡ 10 ^ places + part → all ≡ put_before (drop 1 (digit_text 10 false led)) row →
    all ≡ put_before (placed places part) row
led_pieces places part led row all f n a =
    a ∙ ap (λ x. put_before (drop 1 x) row) (ap (digit_text 10 false) n ∙ led_text places part f)

pub led_fits : (places part led : ℕ) → part < 10 ^ places → led ≡ 10 ^ places + part →
    length (digit_text 10 false led) ≤ places + 1
led_fits places part led f n =
    let all = ap length (ap (digit_text 10 false) n ∙ led_text places part f) in
    omega (arith, all, length-placed places part f)

pub led_unit : (places : ℕ) → places ≤ 18 → 10 ^ places ≤ 10 ^ 18
led_unit places h = pow-le-pow_right (omega arith) h

pub ruleset led_steps = (led_pieces, led_fits, led_unit)

-- ---- after the point

pub part_digits : (places part : ℕ) → 0 < places → part < 10 ^ places →
    length (digit_text 10 false part) ≤ places
part_digits places part h f = grind (arith, length-digit_text-le)

pub placed_pieces : (places part missing : ℕ) (row digits all : Buffered) → 0 < places →
    digits ≡ put_before (digit_text 10 false part) row →
    all ≡ put_before (replicate missing 48) digits →
    missing ≡ places - length (digit_text 10 false part) →
    all ≡ put_before (placed places part) row
placed_pieces places part missing row digits all h a b n = grind (arith, placed_some, grown_twice)

pub nothing_placed : (places part : ℕ) (row : Buffered) → places ≡ 0 →
    row ≡ put_before (placed places part) row
nothing_placed places part row e = grind (arith, placed_none)

pub nothing_after : (places part trailing : ℕ) (row : Buffered) → places + trailing ≡ 0 →
    row ≡ put_before (after_point (placed places part ++ replicate trailing 48)) row
nothing_after places part trailing row e = grind (arith, placed_none)

pub length-pointed : (digits : List ℕ) → length (after_point digits) ≤ length digits + 1
length-pointed digits = grind arith

length-after : (places part zeros : ℕ) → part < 10 ^ places →
    length (placed places part ++ replicate zeros 48) ≡ places + zeros
length-after places part zeros f = grind (arith, length-append, length-placed, length-replicate)

pub few_after : (places part zeros : ℕ) → part < 10 ^ places →
    length (after_point (placed places part ++ replicate zeros 48)) ≤ places + zeros + 1
few_after places part zeros f = grind (arith, length-after, length-pointed)

pub after_pieces : (places part zeros : ℕ) (row zeroed digits all : Buffered) →
    0 < places + zeros → part < 10 ^ places → zeroed ≡ put_before (replicate zeros 48) row →
    digits ≡ put_before (placed places part) zeroed → all ≡ put_before (46 ∷ []) digits →
    all ≡ put_before (after_point (placed places part ++ replicate zeros 48)) row
after_pieces places part zeros row zeroed digits all h f a b c =
    grind (arith, length-after, grown_twice)

pub ruleset after_steps = (nothing_after, after_pieces, length-placed, length-replicate)

-- ---- the whole

-- a decimal alone in a row
pub decimal_row : (spec : Spec) (whole part places zeros : ℕ) (empty row : Buffered) (fill : ℕ) →
    unwrap_or spec.width 0 ≤ 40 → whole < 2 ^ 128 → part < 10 ^ places → places + zeros ≤ 40 →
    fill ≡ row_fill spec → empty ≡ record { before = 88; text = []; after = 40; fill = fill } →
    row ≡ put_before (split_text whole part places zeros) empty → IsNumberRow spec row
decimal_row spec whole part places zeros empty row fill w d p z f e r =
    grind (arith, decimal_digits, few_after, length-append)

pub ruleset split_steps = (grown_twice, decimal_digits, few_after)

-- the parts of a decimal are its text
pub decimal_body : (whole part places zeros count between : ℕ) (before point' after tail : List ℕ) →
    part < 10 ^ places → before ≡ digit_text 10 false whole →
    point' ≡ (if count == 0 then [] else 46 ∷ []) →
    after ≡ (if places == 0 then [] else digit_text 10 false part) →
    count ≡ min (places + zeros) (2 ^ 64 - 1) → between ≡ places - length after → tail ≡ [] →
    before ++ (point' ++ (replicate between 48 ++ (after ++ (replicate zeros 48 ++ tail))))
    ≡ split_text whole part places zeros
decimal_body whole part places zeros count between before point' after tail p b q a k n t =
    grind (arith, common_steps, eq-zero-or-pos, placed_none, placed_some, append_assoc, append-nil, length-after)

-- the parts, padded
pub decimal_parts : (spec : Spec) (sign whole point' part tail : List ℕ)
    (count before padding between trailing after : ℕ) →
    count ≡ min (length sign + length (whole ++ (point' ++ (replicate between 48
    ++ (part ++ (replicate trailing 48 ++ tail)))))) (2 ^ 64 - 1) →
    IsNumberLayout spec count before padding after →
    replicate before (fill_of spec) ++ (sign ++ (replicate padding 48 ++ (whole ++ (point'
    ++ (replicate between 48 ++ (part ++ (replicate trailing 48
    ++ (tail ++ (replicate after (fill_of spec) ++ [])))))))))
    ≡ padded_number spec sign (whole ++ (point' ++ (replicate between 48
    ++ (part ++ (replicate trailing 48 ++ tail)))))
decimal_parts spec sign whole point' part tail count before padding between trailing after n l =
    let head = whole ++ (point' ++ (replicate between 48 ++ part)) in
    let parts = number_parts spec sign [] head tail count before padding trailing after
    (simp (append-nil, append_assoc) n) l in
    simp append-nil (simp (append-nil, append_assoc) at parts)

-- ---- exponents less a scale

pub ten_digits : (n : ℕ) → n < 2 ^ 32 → length (digit_text 10 false n) ≤ 10
ten_digits n h = grind (arith, length-digit_text-le)

pub tail_below : (upper : Bool) (exponent scale : ℕ) → exponent < scale →
    scaled_tail upper exponent scale ≡ mark upper ∷ (codes "-" ++ digit_text 10 false (scale - exponent))
tail_below upper exponent scale h = grind (arith, nat_lt)

pub tail_above : (upper : Bool) (exponent scale : ℕ) → scale ≤ exponent →
    scaled_tail upper exponent scale ≡ exponent_tail upper (exponent - scale)
tail_above upper exponent scale h = grind (arith, nat_lt)

pub below_pieces : (upper : Bool) (exponent scale : ℕ) (row digits minus all : Buffered) →
    exponent < scale → digits ≡ put_before (digit_text 10 false (scale - exponent)) row →
    minus ≡ put_before (45 ∷ []) digits → all ≡ put_before (mark upper ∷ []) minus →
    all ≡ put_before (scaled_tail upper exponent scale) row
below_pieces upper exponent scale row digits minus all h a b c =
    grind (arith, tail_below, grown_twice)

pub above_pieces : (upper : Bool) (exponent scale : ℕ) (row all : Buffered) → scale ≤ exponent →
    all ≡ put_before (exponent_tail upper (exponent - scale)) row →
    all ≡ put_before (scaled_tail upper exponent scale) row
above_pieces upper exponent scale row all h e = grind (arith, tail_above)

pub ruleset scaled_steps = (ten_digits, below_pieces, above_pieces)

pub length-scaled_tail : (upper : Bool) (exponent scale : ℕ) → exponent ≤ 39 → scale < 2 ^ 32 →
    length (scaled_tail upper exponent scale) ≤ 12
length-scaled_tail upper exponent scale s h =
    grind (arith, cases_lt, ten_digits, tail_below, two_digits, tail_above)

-- exponent form of a decimal alone in a row
pub scaled_row : (spec : Spec) (digits zeros exponent scale : ℕ) (upper : Bool)
    (empty row : Buffered) (fill : ℕ) → unwrap_or spec.width 0 ≤ 40 → digits < 2 ^ 128 →
    zeros ≤ 30 → exponent ≤ 39 → scale < 2 ^ 32 →
    fill ≡ row_fill spec → empty ≡ record { before = 88; text = []; after = 40; fill = fill } →
    row ≡ put_before (shown_scaled upper digits zeros exponent scale) empty → IsNumberRow spec row
scaled_row spec digits zeros exponent scale upper empty row fill w d z s h f e r =
    grind (arith, common_steps, length-scaled_tail, digits_row)

-- which the exponent form of a decimal is
pub scaled_exponent : (upper : Bool) (precision : Option ℕ) (units scale digits count exponent : ℕ) →
    digit_text 10 false digits ++ replicate count 48 ≡ (scientific precision units).digits →
    exponent ≡ (scientific precision units).exponent →
    shown_scaled upper digits count exponent (scale_of scale units)
    ≡ decimal_exponent_text upper precision scale units
unfolding decimal_exponent_text
scaled_exponent upper precision units scale digits count exponent d e = grind arith

pub ruleset shown_scaled_steps = (digits_before, length-replicate, length-scaled_tail)
