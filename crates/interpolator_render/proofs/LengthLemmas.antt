-- How many characters the text of a view has at most.
use Rattle.std.proofs.Common.{length-append, FitsSigned, unwrap_or, pow-add, length, Option, nat_lt}
use Rattle.std.proofs.Common.{arith, false, Bool, true, List, None, Some, ◌==◌, ◌||◌, ◌≡◌, ◌+◌, ◌*◌}
use Rattle.std.proofs.Common.{◌^◌, ◌<◌, ◌≤◌, ◌∷◌, max, ◌/◌, [], ℕ, ℤ}
use Rattle.std.proofs.{lemmas.Bool.cases_lt, lemmas.Bool.Decides.nat_tests, lemmas.List.length-take}
use Rattle.std.proofs.Math.Nat.{div-le_self}
use Rattle.std.specs.{Float.Float, Float.fin, Float.inf, Float.nan, List.flat_map}
use Rattle.interpolator_render.specs.Characters.{single_quote, space, delete}
use Rattle.interpolator_render.specs.Lengths.{IsShownWithin, most_digits, most_front, most_body}
use Rattle.interpolator_render.specs.Lengths.{most_number, most_text, most_written, HasAtMost}
use Rattle.interpolator_render.specs.Lengths.{usize_count, IsBodyWithin, most_decimal, most_scaled}
use Rattle.interpolator_render.specs.Numbers.{base_of, sign_text, distance_from_zero, number_form}
use Rattle.interpolator_render.specs.Numbers.{has_minus, magnitude, front_text, number_text}
use Rattle.interpolator_render.specs.Numbers.{is_negative}
use Rattle.interpolator_render.specs.Quoting.{escape_by, escape_of, quotation}
use Rattle.interpolator_render.specs.Texts.{in_form, padded_decimal, padded_float, view_text}
use Rattle.interpolator_render.specs.Views.{Shown, signed_number, unsigned_number, truth_value}
use Rattle.interpolator_render.specs.Views.{decimal_number, one_character, some_text, plain_text}
use Rattle.interpolator_render.specs.Views.{float_number, integer_width}
use Rattle.interpolator_render.specs.declared.number_form.NumberForm.{NumberForm}
use Rattle.interpolator_render.specs.declared.number_form.NumberForm.TheVariants.{}
use Rattle.interpolator_render.specs.declared.number_form.NumberForm.TheVariants.{Exponent as InExponent}
use Rattle.interpolator_render.specs.{declared.number_form.Radix.Radix, declared.view.Bits.Bits}
use Rattle.interpolator_render.specs.{declared.view.Bits.TheVariants.B128, declared.view.Sign.Sign}
use Rattle.interpolator_render.specs.{declared.view.Spec.Spec, declared.view.Trait.Trait}
use Rattle.interpolator_render.specs.{Forms.decimal_body, Forms.float_front, Padding.displayed_text}
use Rattle.interpolator_digits.specs.Decimals.{decimal_exponent_text, decimal_text, units_at}
use Rattle.interpolator_digits.specs.Digits.{digit_text}
use Rattle.interpolator_digits.specs.Exponent.{exponent_of, significant_digits, scientific}
use Rattle.interpolator_digits.specs.Exponent.{with_point, exponent_text}
use Rattle.interpolator_render.proofs.CountLemmas.{scientific_count}
use Rattle.interpolator_render.proofs.DecimalRowLemmas.{length-pointed, length-scaled_tail}
use Rattle.interpolator_render.proofs.ExponentRowLemmas.{two_digits, decimal_digits}
use Rattle.interpolator_render.proofs.LawLemmas.{padded_text_count, padded_number_count}
use Rattle.interpolator_render.proofs.LawLemmas.{trimmed_tail, twos_complement_below}
use Rattle.interpolator_digits.proofs.DecimalLemmas.{length-placed, remainder_fits, scaled_quotient}
use Rattle.interpolator_digits.proofs.{DigitLemmas.length-digit_text-le, ExponentLemmas.pow_some}

-- ---- digits

digits_within : (radix : Radix) (n : ℕ) (upper : Bool) → n < 2 ^ 128
    → length (digit_text (base_of radix) upper n) ≤ most_digits radix
digits_within radix n upper h = grind (arith, length-digit_text-le)

-- ---- exponent forms

length-with_point : (digits : List ℕ) → length (with_point digits) ≤ length digits + 1
length-with_point digits = grind arith

few_digits : (n : ℕ) → n < 2 ^ 128 → exponent_of n ≤ 38
few_digits n h = grind (arith, decimal_digits)

trimmed_within : (digits : List ℕ) → length (significant_digits digits) ≤ length digits
trimmed_within digits = grind (arith, trimmed_tail digits, length-append)

ruleset form_counts =
    (length-append, length-with_point, trimmed_within, decimal_digits, scientific_count)

exponent_within : (precision : Option ℕ) (n : ℕ) → n < 2 ^ 128
    → (scientific precision n).exponent ≤ 39
unfolding scientific
exponent_within precision n h = grind (arith, few_digits)

exponent_text_within : (upper : Bool) (precision : Option ℕ) (n : ℕ) → n < 2 ^ 128
    → length (exponent_text upper precision n) ≤ most_body (InExponent upper) precision
unfolding exponent_text scientific
exponent_text_within upper precision n h =
    grind (arith, form_counts, two_digits, exponent_within)

-- ---- numbers

sign_within : (negative : Bool) (sign : Sign) → length (sign_text negative sign) ≤ 1
sign_within negative sign = grind arith

-- a signed number lies within 128 bits
distance_within : (z : ℤ) (bits : Bits) → FitsSigned (integer_width bits) z
    → distance_from_zero z < 2 ^ 128
distance_within z bits h = grind arith

number_within : (form : NumberForm) (spec : Spec) (negative : Bool) (n : ℕ)
    → length (front_text form spec negative) ≤ most_front form spec → n < 2 ^ 128
    → length (number_text form spec negative n)
    ≤ max (unwrap_or spec.width 0) (most_number (Some form) spec)
number_within form spec negative n front h =
    grind (arith, padded_number_count, digits_within, exponent_text_within)

-- ---- decimals

rounded_whole : (places scale units : ℕ) → places < scale
    → units_at places scale units / 10 ^ places ≤ units + 1
rounded_whole places scale units h = grind (arith, div-le_self, nat_tests)

longer_whole : (places scale units : ℕ) → scale ≤ places
    → units_at places scale units / 10 ^ places ≤ units + 1
longer_whole places scale units h =
    grind (arith, nat_tests, scaled_quotient, pow_some, pow-add, div-le_self)

-- the number before the point is at most one greater than the units
whole_within : (places scale units : ℕ)
    → units_at places scale units / 10 ^ places ≤ units + 1
whole_within places scale units = grind (arith, cases_lt, rounded_whole, longer_whole)

plain_within : (places scale units : ℕ) → units < 2 ^ 128
    → length (decimal_text (Some places) scale units) ≤ places + 40
unfolding decimal_text
plain_within places scale units h =
    let count = units_at places scale units in
    let low = whole_within places scale units in
    let whole = length-digit_text-le 10 39 (count / 10 ^ places) false (omega arith) (omega arith)
    (omega arith) in
    grind (arith, length-append, length-pointed, length-placed, remainder_fits)

scaled_within : (upper : Bool) (precision : Option ℕ) (scale units : ℕ) → units < 2 ^ 128
    → scale < 2 ^ 32
    → length (decimal_exponent_text upper precision scale units) + 1 ≤ most_scaled precision
unfolding decimal_exponent_text scientific
scaled_within upper precision scale units h s =
    grind (arith, form_counts, few_digits, length-scaled_tail, exponent_within)

decimal_within : (t : Trait) (spec : Spec) (negative : Bool) (scale units number most : ℕ)
    → units < 2 ^ 128 → scale < 2 ^ 32 → length (decimal_text None scale units) < most
    → HasAtMost (max (unwrap_or spec.width 0)
    (max number (max (most_decimal t spec.precision) (most_text t most))))
    (padded_decimal spec negative (decimal_body t spec.precision scale units))
decimal_within t spec negative scale units number most h s l =
    grind (arith, plain_within, scaled_within, padded_number_count, sign_within)

-- ---- floats

front_within : (x : Float) (sign : Sign) → length (float_front x sign) ≤ 1
front_within nan sign = grind arith
front_within (inf s) sign = grind (arith, sign_within)
front_within (fin s m e) sign = grind (arith, sign_within)

float_within : (t : Trait) (spec : Spec) (x : Float) (number most : ℕ) (body : Option (List ℕ))
    → IsBodyWithin (max (most_decimal t spec.precision) (most_text t most)) body
    → HasAtMost (max (unwrap_or spec.width 0)
    (max number (max (most_decimal t spec.precision) (most_text t most))))
    (padded_float spec x body)
float_within t spec x number most None h = tt
float_within t spec x number most (Some body) h =
    grind (arith, padded_number_count, front_within)

-- ---- texts

displayed_within : (spec : Spec) (text : List ℕ) (most : ℕ) → length text ≤ most
    → length (displayed_text spec text) ≤ max (unwrap_or spec.width 0) most
displayed_within spec text most h = grind (arith, padded_text_count, length-take)

control_digits : (c : ℕ) → (nat_lt c space || (c == delete)) ≡ true
    → length (digit_text 16 false c) ≤ 2
control_digits c h = grind (arith, length-digit_text-le, nat_tests)

escaped_within : (letter : Option ℕ) (c : ℕ) → length (escape_by letter c) ≤ 6
escaped_within letter c = grind (arith, length-append, control_digits)

all_escaped : (quote : ℕ) (text : List ℕ)
    → length (flat_map (escape_of quote) text) ≤ length text * 6
all_escaped quote [] = omega arith
all_escaped quote (c ∷ cs) = grind (arith, escaped_within, length-append, all_escaped quote cs)

quoted_within : (quote : ℕ) (text : List ℕ) (most : ℕ) → length text ≤ most
    → length (quotation quote text) ≤ most * 6 + 2
quoted_within quote text most h = grind (arith, length-append, all_escaped)

-- ---- views

unsigned_within : (o : Option NumberForm) (spec : Spec) (n more : ℕ) → n < 2 ^ 128
    → HasAtMost (max (unwrap_or spec.width 0) (max (most_number o spec) more))
    (in_form o (λ form. number_text form spec false n))
unsigned_within o spec n more h = grind (arith, number_within, length-append, sign_within)

signed_within : (o : Option NumberForm) (spec : Spec) (z : ℤ) (bits : Bits) (more : ℕ)
    → FitsSigned (integer_width bits) z
    → HasAtMost (max (unwrap_or spec.width 0) (max (most_number o spec) more))
    (in_form o (λ form. number_text form spec (has_minus form z) (magnitude form z bits)))
signed_within o spec z bits more h =
    grind (arith, distance_within, twos_complement_below, number_within, length-append, sign_within)

pub view_within : (t : Trait) (spec : Spec) (most : ℕ) (shown : Shown)
    → IsShownWithin most shown → HasAtMost (most_written t spec most) (view_text shown t spec)
unfolding view_text most_written
view_within t spec most (signed_number z bits) h =
    signed_within (number_form t spec.hex_debug) spec z bits _ h
view_within t spec most (unsigned_number n) h =
    unsigned_within (number_form t spec.hex_debug) spec n _ h
view_within t spec most (truth_value truth) h = grind (arith, displayed_within)
view_within t spec most (decimal_number units scale) h =
    decimal_within t spec (is_negative units) scale (distance_from_zero units)
    _ most (distance_within units B128 h.0) h.1 h.2
view_within t spec most (float_number format x) h =
    float_within t spec x _ most _ (h t spec.precision)
view_within t spec most (one_character c) h =
    let quotes = quoted_within single_quote (c ∷ []) 1 (omega arith) in
    grind (arith, displayed_within)
view_within t spec most (some_text text) h = grind (arith, displayed_within, quoted_within)
view_within t spec most (plain_text text) h = grind arith
view_within t spec most _ h = tt

pub written_grows : (t : Trait) (spec : Spec) (few many : ℕ) → few ≤ many
    → most_written t spec few ≤ most_written t spec many
unfolding most_written
written_grows t spec few many h = grind arith

-- ---- as the code counts

pub most_reported : (t : Trait) (spec : Spec) (most width number decimal text wide wider widest : ℕ)
    → width < 2 ^ 64 → width ≡ unwrap_or spec.width 0
    → number ≡ usize_count (most_number (number_form t spec.hex_debug) spec)
    → decimal ≡ usize_count (most_decimal t spec.precision)
    → text ≡ usize_count (most_text t most) → wide ≡ max width number
    → wider ≡ max wide decimal → widest ≡ max wider text
    → widest ≡ usize_count (most_written t spec most)
unfolding most_written
most_reported t spec most width number decimal text wide wider widest fits w n d k a b e = omega arith
