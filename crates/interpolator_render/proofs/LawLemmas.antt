-- The laws.
use Rattle.std.proofs.Common.{◌≡◌, ◌≢◌, ℕ, suc, ◌<◌, ◌≤◌, ◌-◌, ◌+◌, ◌*◌, ◌/◌, ◌^◌, max, ℤ, pos}
use Rattle.std.proofs.Common.{negsuc, ◌+ℤ◌, ◌*ℤ◌, Bool, List, [], ◌∷◌, ◌++◌, length, map, get_or}
use Rattle.std.proofs.Common.{replicate, refl, ap, arith, length-append, if◌then◌else◌, ◌==◌, ◌&&◌}
use Rattle.std.proofs.Common.{inl, inr, unwrap_or, None, pow_pos, mul-le-mul_right, eq-zero-or-pos}
use Rattle.std.proofs.lemmas.Int.Digits.{digits_value_is, number_digits_of}
use Rattle.std.proofs.lemmas.Int.Digits.{all_below_base_digits_of, first_digits_of}
use Rattle.std.proofs.{lemmas.Grind.common_steps, lemmas.Bool.cases_lt, lemmas.Bool.cases_order}
use Rattle.std.proofs.{lemmas.Bool.Decides.nat_tests, lemmas.Int.ints, lemmas.List.length-replicate}
use Rattle.std.specs.{Fmt.digit_glyph, Int.Digits.AllBelowBase, Char.digit_value}
use Rattle.std.specs.Str.Parse.{digits_value}
use Rattle.interpolator_render.specs.Padding.{padded_number, padded_text, displayed_text}
use Rattle.interpolator_render.specs.{declared.view.Bits.Bits, declared.view.Spec.Spec}
use Rattle.interpolator_render.specs.{Numbers.twos_complement, Numbers.remainder, Views.bit_count}
use Rattle.interpolator_render.specs.{Writers.Written, Writers.Appends}
use Rattle.interpolator_digits.specs.Digits.{digit_text}
use Rattle.interpolator_digits.specs.Exponent.{nearest, significant_digits, less_zeros, IsNearest}
use Rattle.interpolator_digits.specs.Exponent.{distance}
use Rattle.interpolator_digits.proofs.DigitLemmas.{digit_text_map, glyph_some}
use Rattle.interpolator_render.proofs.NumberLemmas.{before_within}

-- ---- digits

values_of_glyphs : (base : ℕ) (upper : Bool) (ds : List ℕ) → base ≤ 16 → AllBelowBase base ds →
    map digit_value (map (digit_glyph upper) ds) ≡ ds
values_of_glyphs base upper [] h a = refl
values_of_glyphs base upper (d ∷ ds) h a =
    grind (arith, nat_tests, values_of_glyphs base upper ds h a.1)

pub digits_read : (base n : ℕ) (upper : Bool) → 2 ≤ base → base ≤ 16 →
    digits_value base (digit_text base upper n) ≡ n
unfolding digit_text
digits_read base n upper l h =
    let low = all_below_base_digits_of base n l in
    grind (arith, nat_tests, digits_value_is, values_of_glyphs, number_digits_of)

first_glyph : (upper : Bool) (ds : List ℕ) → 0 < get_or ds 0 0 →
    get_or (map (digit_glyph upper) ds) 0 0 ≢ 48
first_glyph upper ds h = grind (arith, common_steps, glyph_some)

pub first_digit : (base n : ℕ) (upper : Bool) → 2 ≤ base → 0 < n →
    get_or (digit_text base upper n) 0 0 ≢ 48
first_digit base n upper l h = grind (arith, digit_text_map, first_glyph, first_digits_of)

pub ruleset digit_laws = (digits_read, first_digit)

-- ---- rounding

pub nearest_is_nearest : (n unit : ℕ) → 0 < unit → IsNearest n unit (nearest n unit)
nearest_is_nearest n unit h = grind (arith, cases_order, nat_tests, eq-zero-or-pos)

-- of two counts only one lies nearest
nearest_one : (n unit less more : ℕ) → 0 < unit → less < more → IsNearest n unit less →
    IsNearest n unit more → ⊥
nearest_one n unit less more h b p q = elim (cases_lt (less + 1) more) [
  | inl apart ↦
      let product : (less + 2) * unit ≤ more * unit = mul-le-mul_right unit (omega arith) in
      let near = p.near in let far = q.near in omega arith
  | inr close ↦
      let next : more ≡ less + 1 = omega arith in
      let product : more * unit ≡ less * unit + unit = rw next (omega arith) in
      let near = p.near in
      let far : 2 * distance n (less * unit + unit) ≤ unit = rw product at q.near in
      let one = p.even (omega arith) in let other = q.even (rw product (omega arith)) in omega arith
]

pub nearest_only : (n unit count : ℕ) → 0 < unit → IsNearest n unit count → count ≡ nearest n unit
nearest_only n unit count h p =
    let q = nearest_is_nearest n unit h in
    let less = λ (below : count < nearest n unit). nearest_one n unit count _ h below p q in
    let more = λ (above : nearest n unit < count). nearest_one n unit _ count h above q p in
    grind (arith, less, more)

pub ruleset nearest_laws = (nearest_is_nearest, nearest_only)

-- ---- the zeros at the end

tail_step : (digit : ℕ) (digits rest : List ℕ) (count : ℕ) → digits ≡ rest ++ replicate count 48 →
    (zeros_after : ℕ) × (digit ∷ digits
    ≡ (if (digit == 48) && (length rest == 0) then [] else digit ∷ rest)
    ++ replicate zeros_after 48)
tail_step digit digits [] count e =
    (if digit == 48 then suc count else count, grind (arith, nat_tests))
tail_step digit digits (second ∷ rest) count e = (count, grind (arith, nat_tests))

less_zeros_tail : (digits : List ℕ) →
    (count : ℕ) × (digits ≡ less_zeros digits ++ replicate count 48)
less_zeros_tail [] = (0, refl)
less_zeros_tail (digit ∷ digits) = let after = less_zeros_tail digits in
    tail_step digit digits (less_zeros digits) after.0 after.1

pub trimmed_tail : (digits : List ℕ) → (count : ℕ) × (digits ≡ significant_digits digits ++ replicate count 48)
trimmed_tail [] = (0, refl)
trimmed_tail (digit ∷ digits) = let after = less_zeros_tail digits in
    (after.0, ap (λ (x : List ℕ). digit ∷ x) after.1)

less_zeros_last : (digits : List ℕ) → 0 < length (less_zeros digits) →
    get_or (less_zeros digits) (length (less_zeros digits) - 1) 0 ≢ 48
less_zeros_last [] some = absurd (omega arith)
less_zeros_last (digit ∷ digits) some = grind (arith, nat_tests, less_zeros_last digits)

pub trimmed_last : (digits : List ℕ) → 1 < length (significant_digits digits) →
    get_or (significant_digits digits) (length (significant_digits digits) - 1) 0 ≢ 48
trimmed_last digits more = grind (arith, less_zeros_last)

pub ruleset trimmed_laws = (trimmed_tail, trimmed_last)

-- ---- padding

pub padded_text_count : (spec : Spec) (text : List ℕ) → length (padded_text spec text)
    ≡ max (unwrap_or spec.width 0) (length text)
unfolding padded_text
padded_text_count spec text = grind (arith, before_within, length-append, length-replicate)

pub padded_number_count : (spec : Spec) (front body : List ℕ) →
    length (padded_number spec front body)
    ≡ max (unwrap_or spec.width 0) (length front + length body)
unfolding padded_number
padded_number_count spec front body = grind (arith, before_within, length-append, length-replicate)

pub ruleset padded_laws = (padded_text_count, padded_number_count)

pub pad_count : (spec : Spec) (text : List ℕ) (old new : Written) → spec.precision ≡ None →
    Appends old (displayed_text spec text) new →
    length new.text ≡ length old.text + max (unwrap_or spec.width 0) (length text)
pad_count spec text old new none p = grind (arith, length-append, padded_text_count)

-- ---- two's complement

pub remainder_below : (z : ℤ) (m : ℕ) → 0 < m → remainder z m < m
remainder_below z m h = grind arith

pub twos_complement_below : (z : ℤ) (bits : Bits) → twos_complement z bits < 2 ^ bit_count bits
twos_complement_below z bits = grind (arith, remainder_below, pow_pos)

pub remainder_congruent : (z : ℤ) (m : ℕ) → 0 < m →
    (turns : ℤ) × (z ≡ (turns *ℤ pos m) +ℤ pos (remainder z m))
remainder_congruent (pos n) m h = (pos (n / m), grind arith)
remainder_congruent (negsuc n) m h = (negsuc (n / m), omega (arith, ints))

pub twos_complement_congruent : (z : ℤ) (bits : Bits) →
    (turns : ℤ) × (z ≡ (turns *ℤ pos (2 ^ bit_count bits)) +ℤ pos (twos_complement z bits))
twos_complement_congruent z bits = grind (arith, remainder_congruent, pow_pos)

pub ruleset twos_complement_laws = (twos_complement_below, twos_complement_congruent)
