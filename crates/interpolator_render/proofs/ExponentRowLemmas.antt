-- Exponent form in a row: digits with their point, zeros, and the exponent after its mark.
use Rattle.std.proofs.Common.{◌≡◌, ℕ, ◌<◌, ◌≤◌, ◌+◌, ◌^◌, false, Bool, List, [], ◌∷◌, ◌++◌, length}
use Rattle.std.proofs.Common.{drop, replicate, refl, ap, arith, append-nil, append_assoc}
use Rattle.std.proofs.Common.{length-append, Option, unwrap_or}
use Rattle.std.proofs.{lemmas.Bool.Decides.nat_tests, lemmas.List.length-replicate}
use Rattle.std.specs.Fmt.{digit_glyph}
use Rattle.interpolator_digits.specs.Digits.{digit_text}
use Rattle.interpolator_digits.specs.Exponent.{exponent_tail, exponent_text, leading, with_point}
use Rattle.interpolator_digits.specs.Exponent.{scientific, shown_text}
use Rattle.interpolator_render.specs.declared.view.Spec.{Spec}
use Rattle.interpolator_render.specs.Padding.{IsNumberRow, row_fill}
use Rattle.interpolator_render.specs.DigitBuffers.{Buffered, put_before}
use Rattle.interpolator_digits.proofs.DigitLemmas.{digit_count_step, length-digit_text-le}
use Rattle.interpolator_digits.proofs.DigitLemmas.{digit_text_some, low_count, one_count}
use Rattle.interpolator_render.proofs.DigitBufferLemmas.{grown_twice}

-- ---- room

pub two_digits : (n : ℕ) → n ≤ 39 → length (digit_text 10 false n) ≤ 2
two_digits n h = grind (arith, length-digit_text-le)

pub ruleset tail_steps = (two_digits, grown_twice)

pub decimal_digits : (n : ℕ) → n < 2 ^ 128 → length (digit_text 10 false n) ≤ 39
decimal_digits n h = grind (arith, length-digit_text-le)

-- ---- the point

length-leading : (digits after : List ℕ) → length (leading digits after) ≤ length digits + 1
length-leading digits after = grind arith

-- what comes before the zeros, and the zeros, are the digits with their point
leading_then : (digits after : List ℕ) → 0 < length digits →
    leading digits after ++ after ≡ with_point (digits ++ after)
leading_then digits after h = grind arith

-- how many digits a number has
pub more_digits : (n : ℕ) → 10 ≤ n → 1 < length (digit_text 10 false n)
more_digits n h = grind (arith, digit_count_step, digit_text_some)

pub small_glyph : (d : ℕ) → d < 10 → digit_glyph false d ≡ 48 + d
small_glyph d h = grind (arith, nat_tests)

-- ---- the pieces, in the order in which they are written

pub leading_pieces : (digits after : List ℕ) (first : ℕ) (row low point all : Buffered) →
    first < 10 → digits ≡ digit_glyph false first ∷ drop 1 digits →
    1 < length digits + length after → low ≡ put_before (drop 1 digits) row →
    point ≡ put_before (46 ∷ []) low → all ≡ put_before ((48 + first) ∷ []) point →
    all ≡ put_before (leading digits after) row
leading_pieces digits after first row low point all h e more a b c =
    grind (arith, small_glyph, grown_twice)

pub alone_pieces : (digits after : List ℕ) (first : ℕ) (row low all : Buffered) → first < 10 →
    digits ≡ digit_glyph false first ∷ drop 1 digits → length digits + length after ≡ 1 →
    low ≡ put_before (drop 1 digits) row → all ≡ put_before ((48 + first) ∷ []) low →
    all ≡ put_before (leading digits after) row
alone_pieces digits after first row low all h e single a b = grind (arith, small_glyph, grown_twice)

-- digits and zeros in front of any text
pub digits_before : (digits zeros : ℕ) (after : List ℕ) (row tail padded all : Buffered) →
    tail ≡ put_before after row → padded ≡ put_before (replicate zeros 48) tail →
    all ≡ put_before (leading (digit_text 10 false digits) (replicate zeros 48)) padded →
    all ≡ put_before (with_point (digit_text 10 false digits ++ replicate zeros 48) ++ after) row
digits_before digits zeros after row tail padded all a b c =
    grind (arith, grown_twice, append_assoc, leading_then, digit_text_some)

pub shown_pieces : (upper : Bool) (digits zeros exponent : ℕ) (row tail padded all : Buffered) →
    tail ≡ put_before (exponent_tail upper exponent) row → padded ≡ put_before (replicate zeros 48) tail →
    all ≡ put_before (leading (digit_text 10 false digits) (replicate zeros 48)) padded →
    all ≡ put_before (shown_text upper digits zeros exponent) row
shown_pieces upper digits zeros exponent row tail padded all a b c = grind (arith, digits_before)

-- ---- the whole

-- digits, zeros and a text after them alone in a row
pub digits_row : (spec : Spec) (digits zeros : ℕ) (after : List ℕ) (empty row : Buffered)
    (fill : ℕ) → unwrap_or spec.width 0 ≤ 40 → digits < 2 ^ 128 → zeros + length after ≤ 45 →
    fill ≡ row_fill spec → empty ≡ record { before = 88; text = []; after = 40; fill = fill } →
    row ≡ put_before (with_point (digit_text 10 false digits ++ replicate zeros 48) ++ after) empty →
    IsNumberRow spec row
digits_row spec digits zeros after empty row fill w d z f e r =
    let whole = ap length (leading_then (digit_text 10 false digits) (replicate zeros 48)
    (digit_text_some 10 digits false (omega arith))) in
    grind (arith, decimal_digits, length-leading, length-append, length-replicate)

-- an exponent form alone in a row
pub exponent_row : (spec : Spec) (digits zeros exponent : ℕ) (upper : Bool) (empty row : Buffered)
    (fill : ℕ) → unwrap_or spec.width 0 ≤ 40 → digits < 2 ^ 128 → zeros ≤ 40 → exponent ≤ 39 →
    fill ≡ row_fill spec → empty ≡ record { before = 88; text = []; after = 40; fill = fill } →
    row ≡ put_before (shown_text upper digits zeros exponent) empty → IsNumberRow spec row
exponent_row spec digits zeros exponent upper empty row fill w d z s f e r =
    digits_row spec digits zeros (exponent_tail upper exponent) empty row fill w d
    (grind (arith, two_digits)) f e r

-- head, zeros and any text after them are the whole
pub digits_parts : (digits count : ℕ) (head tail after : List ℕ) →
    head ≡ leading (digit_text 10 false digits) (replicate count 48) → tail ≡ after →
    head ++ (replicate count 48 ++ tail)
    ≡ with_point (digit_text 10 false digits ++ replicate count 48) ++ after
digits_parts digits count head tail after h t =
    grind (arith, append_assoc, leading_then, digit_text_some)

-- head, zeros and tail are the whole
pub exponent_parts : (upper : Bool) (digits count exponent : ℕ) (head tail : List ℕ) →
    head ≡ leading (digit_text 10 false digits) (replicate count 48) →
    tail ≡ exponent_tail upper exponent →
    head ++ (replicate count 48 ++ tail) ≡ shown_text upper digits count exponent
exponent_parts upper digits count exponent head tail h t = grind (arith, digits_parts)

-- a text alone in a row
pub grown_alone : (text : List ℕ) (row empty : Buffered) → empty.text ≡ [] →
    row ≡ put_before text empty → row.text ≡ text
grown_alone text row empty e r = grind (arith, append-nil)

-- which the exponent form of a number is
pub shown_exponent : (upper : Bool) (precision : Option ℕ) (n digits count exponent : ℕ) →
    digit_text 10 false digits ++ replicate count 48 ≡ (scientific precision n).digits →
    exponent ≡ (scientific precision n).exponent →
    shown_text upper digits count exponent ≡ exponent_text upper precision n
unfolding exponent_text
shown_exponent upper precision n digits count exponent d e = grind arith

pub ruleset shown_steps = (length-replicate, shown_pieces, two_digits)

pub ruleset part_steps = (append-nil, digits_parts, exponent_parts, grown_alone)

-- room for point and first digit
pub ruleset leading_counts = (decimal_digits, low_count)
