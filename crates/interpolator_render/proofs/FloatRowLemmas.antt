-- Floats in parts: digits with zeros after them, digits around a point, and exponent forms.
use Rattle.std.proofs.Common.{◌≡◌, ℕ, zero, suc, ◌<◌, ◌≤◌, ◌-◌, ◌+◌, ◌*◌, ◌^◌, min, false, List, []}
use Rattle.std.proofs.Common.{◌∷◌, ◌++◌, length, take, drop, replicate, if◌then◌else◌, ◌==◌, arith}
use Rattle.std.proofs.Common.{append_assoc, append-nil, eq-zero-or-pos, inl, inr, None, Bool, ap}
use Rattle.std.proofs.Common.{sym, refl, ◌∙◌, length-append}
use Rattle.std.proofs.{lemmas.List.length-replicate, lemmas.Bool.Decides.nat_tests}
use Rattle.std.proofs.Math.Nat.{mul-le-mul_right}
use Rattle.interpolator_digits.specs.Exponent.{exponent_of, with_point}
use Rattle.interpolator_digits.specs.{Decimals.decimal_text, Digits.digit_text}
use Rattle.interpolator_digits.proofs.DigitLemmas.{length-digit_text-le}
use Rattle.interpolator_digits.proofs.ExponentLemmas.{exponent_bounds_of, pow_some}
use Rattle.interpolator_floats.specs.{LastDigits.pointed_text, ShortestDigits.IsTrimmed}
use Rattle.interpolator_floats.proofs.{FormLemmas.pow_less, PlainLemmas.whole_plain}
use Rattle.interpolator_render.specs.Padding.{padded_number, unset_spec}
use Rattle.interpolator_render.specs.{declared.view.Sign.TheVariants.Unset, declared.view.Spec.Spec}
use Rattle.interpolator_render.specs.{Forms.is_far, Numbers.sign_text}
use Rattle.interpolator_render.proofs.{DigitBufferLemmas.grown_twice, ExponentRowLemmas.grown_alone}
use Rattle.interpolator_render.proofs.NumberLemmas.{bare_body}

-- ---- digits with zeros after them

pub no_places : (digits up down : ℕ) → IsTrimmed digits up down → 0 < up → down ≡ 0
no_places digits up down trim h = let w = trim.one_way in grind arith

pub tens_text : (digits up down : ℕ) (whole none after part : List ℕ) → IsTrimmed digits up down
    → 19 < up → whole ≡ digit_text 10 false digits → none ≡ [] → part ≡ [] → after ≡ []
    → whole ++ (none ++ (replicate up 48 ++ (part ++ (replicate 0 48 ++ after))))
    ≡ decimal_text None down (digits * 10 ^ up)
tens_text digits up down whole none after part trim many w n p a =
    rw (w, n, p, a) (whole_plain digits up down trim (no_places digits up down trim (omega arith)))

-- ---- alone

pub whole_text : (digits up down : ℕ) → IsTrimmed digits up down → down ≡ 0
    → digit_text 10 false digits ++ replicate up 48 ≡ decimal_text None down (digits * 10 ^ up)
whole_text digits up down trim z =
    ap (λ x. digit_text 10 false digits ++ x) (sym (append-nil (replicate up 48)))
    ∙ whole_plain digits up down trim z

pub part_text : (digits up down : ℕ) → up ≡ 0
    → decimal_text None down digits ≡ decimal_text None down (digits * 10 ^ up)
part_text digits up down z =
    let one : digits ≡ digits * 10 ^ up = grind (arith, z) in ap (decimal_text None down) one

pub unset_text : (spec : Spec) (negative : Bool) (body : List ℕ) → spec ≡ unset_spec
    → padded_number spec (sign_text negative spec.sign) body ≡ sign_text negative Unset ++ body
unset_text spec negative body e = bare_body spec negative body (ap (λ s. s.width) e)
    (ap (λ s. s.zero) e) (ap (λ s. s.sign) e)

pub ruleset bare_shortest = (whole_text, part_text)

-- ---- exponents

pub long_digits : (n : ℕ) → n < 2 ^ 64 → length (digit_text 10 false n) ≤ 20
long_digits n h = grind (arith, length-digit_text-le)

pub ruleset tail_steps = (long_digits, grown_twice)

pub ruleset bare_tens = (long_digits, grown_twice, length-append, length-replicate)

-- ---- around the point

pub form_parts : (digits first more point' tail text : List ℕ) (zeros count : ℕ) → 0 < length digits
    → first ≡ take 1 digits → more ≡ drop 1 digits → point' ≡ (if count == 0 then [] else 46 ∷ [])
    → count ≡ min (length more + zeros) (2 ^ 64 - 1) → tail ≡ text
    → first ++ (point' ++ (replicate 0 48 ++ (more ++ (replicate zeros 48 ++ tail))))
    ≡ with_point (digits ++ replicate zeros 48) ++ text
form_parts [] first more point' tail text zeros count h f m p n t = absurd (omega arith)
form_parts (d ∷ []) first more point' tail text zero count h f m p n t = grind (arith, nat_tests)
form_parts (d ∷ []) first more point' tail text (suc zeros) count h f m p n t = grind (arith, nat_tests)
form_parts (d ∷ e ∷ ds) first more point' tail text zeros count h f m p n t =
    grind (arith, nat_tests, append_assoc)

pub ruleset form_steps = (form_parts, grown_alone)

pub pointed_parts : (whole part point' tail : List ℕ) (zeros count : ℕ)
    → point' ≡ (if count == 0 then [] else 46 ∷ []) → count ≡ min (length part + zeros) (2 ^ 64 - 1)
    → tail ≡ []
    → whole ++ (point' ++ (replicate 0 48 ++ (part ++ (replicate zeros 48 ++ tail))))
    ≡ pointed_text whole part zeros
pointed_parts whole [] point' tail zero count p n t = grind (arith, nat_tests, append-nil)
pointed_parts whole [] point' tail (suc zeros) count p n t = grind (arith, nat_tests, append-nil)
pointed_parts whole (c ∷ cs) point' tail zeros count p n t = grind (arith, nat_tests, append-nil)

-- ---- near 1

-- digits that debug does not write in exponent form have few zeros after them
pub near_tens : (digits up down : ℕ) → IsTrimmed digits up down
    → false ≡ is_far down (digits * 10 ^ up) → up ≤ 19
near_tens digits up down trim near = elim (eq-zero-or-pos digits) [
  | inl z ↦ let none = (trim.last (omega (arith, z))).1 in omega (arith, none)
  | inr some ↦ elim (eq-zero-or-pos up) [
    | inl z ↦ omega (arith, z)
    | inr more ↦
        let u = 10 ^ up in
        let l : 1 * u ≤ digits * u = mul-le-mul_right u some in
        let own = exponent_bounds_of (digits * 10 ^ up) (omega (arith, l, pow_some up)) in
        let e : up < exponent_of (digits * 10 ^ up) + 1 = pow_less _ _ (omega (arith, own.1, l)) in
        let none = no_places digits up down trim more in
        grind (arith, nat_tests)
  ]
]
