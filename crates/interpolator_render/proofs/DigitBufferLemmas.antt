-- A row that grows at its front or at its end.
use Rattle.std.proofs.Common.{append_assoc, ◌≡◌, ℕ, Bool, ◌<◌, ◌≤◌, ◌-◌, ◌+◌, ◌^◌, List, [], ◌∷◌}
use Rattle.std.proofs.Common.{◌++◌, length, take, drop, set, replicate, arith, length-append}
use Rattle.std.proofs.Common.{drop-drop, take-take, take-append-drop, length-take-le, unwrap_or}
use Rattle.std.proofs.Common.{IsAscii, take-add, false}
use Rattle.std.proofs.lemmas.List.{length-replicate, take-replicate, drop-replicate, drop-append-le}
use Rattle.std.proofs.lemmas.List.{drop-set}
use Rattle.std.proofs.lemmas.Str.{IsAscii-take, IsAscii-drop, IsAscii-append}
use Rattle.std.proofs.{Math.Seq.take-append-add, Math.Seq.drop-append-add, Math.Nat.pow-le-pow_left}
use Rattle.interpolator_render.specs.Numbers.{base_of, is_upper}
use Rattle.interpolator_render.specs.Padding.{IsNumberRow, row_fill}
use Rattle.interpolator_render.specs.DigitBuffers.{Buffered, IsBuffered, buffer_row, put_before}
use Rattle.interpolator_render.specs.DigitBuffers.{put_after}
use Rattle.interpolator_render.specs.{declared.number_form.Radix.Radix, declared.view.Spec.Spec}
use Rattle.interpolator_digits.specs.Digits.{digit_text}
use Rattle.interpolator_digits.proofs.DigitLemmas.{length-digit_text-le}
use Rattle.interpolator_render.proofs.LayoutLemmas.{IsAscii-replicate}

-- a piece is in front of the text, and nothing else has changed
pub row_grows : (old new piece : List ℕ) (fill from start end : ℕ) (row : Buffered) → start ≤ end →
    from + length piece ≡ start → drop from new ≡ piece ++ drop start old →
    buffer_row old fill start end ≡ row → buffer_row new fill from end ≡ put_before piece row
row_grows old new piece fill from start end row h s e v =
    let long : end - from ≡ length piece + (end - start) = omega arith in
    grind (arith, take-append-add, long)

pub IsBuffered-grows : (old new piece : List ℕ) (fill from start end : ℕ) → IsAscii piece →
    from + length piece ≡ start → take from new ≡ take from old →
    drop from new ≡ piece ++ drop start old →
    IsBuffered old fill start end → IsBuffered new fill from end
IsBuffered-grows old new piece fill from start end a s t e row =
    let first = take-take from start old in
    let there = drop-drop (length piece + (end - start)) from new in
    let here = drop-drop (end - start) start old in
    let ascii : IsAscii new = rw (← take-append-drop from new, t, e)
    (IsAscii-append _ _ (IsAscii-take old from row.ascii) (IsAscii-append piece _ a
    (IsAscii-drop old start row.ascii))) in
    grind (arith, take-replicate, drop-append-add)

-- one byte more
pub byte_in_front : (old : List ℕ) (start byte : ℕ) → 1 ≤ start → start ≤ length old →
    drop (start - 1) (set old (start - 1) byte) ≡ (byte ∷ []) ++ drop start old
byte_in_front old start byte h l = grind (arith, drop-set old (start - 1))

-- copies of the fill are in front of the text already
pub copies_in_front : (old : List ℕ) (fill count start end : ℕ) → count ≤ start →
    start ≤ length old → IsBuffered old fill start end → drop (start - count) old ≡ replicate count fill
    ++ drop start old
copies_in_front old fill count start end h l row =
    let split = drop-append-le (start - count) (take start old) (drop start old) in
    grind (arith, length-take-le, take-append-drop, drop-replicate)

-- and after it
pub row_grows_after : (old : List ℕ) (fill count start end : ℕ) → end + count ≤ 128 →
    IsBuffered old fill start end →
    buffer_row old fill start (end + count) ≡ put_after (replicate count fill)
    (buffer_row old fill start end)
row_grows_after old fill count start end h row =
    let there = drop-drop (end - start) start old in
    let parts = take-add (end - start) count (drop start old) in
    grind (arith, length-replicate, take-replicate)

pub IsBuffered-grows_after : (old : List ℕ) (fill count start end : ℕ) → end + count ≤ 128 →
    IsBuffered old fill start end → IsBuffered old fill start (end + count)
IsBuffered-grows_after old fill count start end h row =
    grind (arith, drop-drop count end old, drop-replicate count (128 - end) fill)

-- an empty row
pub new_row : (fill : ℕ) → fill < 128 → IsBuffered (replicate 128 fill) fill 88 88
new_row fill a = record {
  ordered = omega arith;
  within = omega arith;
  fill_ascii = a;
  ascii = IsAscii-replicate 128 fill a;
  filled_before = take-replicate 88 128 fill (omega arith);
  filled_after = drop-replicate 88 128 fill;
}

pub base_from_2 : (radix : Radix) → 2 ≤ base_of radix
base_from_2 radix = grind arith

-- a number below 2 ^ 64 has at most 64 digits
pub short_digits : (base n : ℕ) (upper : Bool) → 2 ≤ base → n < 2 ^ 64 →
    length (digit_text base upper n) ≤ 64
short_digits base n upper b s =
    let wide = pow-le-pow_left b 64 in grind (arith, length-digit_text-le)

-- for the digits of 64 bits in base ten
pub few_decimals : (n : ℕ) → n < 2 ^ 64 → length (digit_text 10 false n) ≤ 64
few_decimals n s = short_digits 10 n false (omega arith) s

-- the digits of 64 bits alone in a row
pub number_row : (spec : Spec) (radix : Radix) (n : ℕ) (empty row : Buffered) (fill : ℕ) →
    unwrap_or spec.width 0 ≤ 40 → n < 2 ^ 64 → fill ≡ row_fill spec →
    empty ≡ record { before = 88; text = []; after = 40; fill = fill } →
    row ≡ put_before (digit_text (base_of radix) (is_upper radix) n) empty → IsNumberRow spec row
number_row spec radix n empty row fill w s f e r =
    grind (arith, short_digits, base_from_2, length-append)

-- one piece in front of another
pub grown_twice : (first second : List ℕ) (row : Buffered) → put_before first (put_before second row)
    ≡ put_before (first ++ second) row
grown_twice first second row = grind (arith, length-append, append_assoc)

pub ruleset front_steps = (byte_in_front, row_grows)

pub ruleset after_grows = (IsBuffered-grows_after, row_grows_after)
