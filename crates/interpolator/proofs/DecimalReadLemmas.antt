-- The text of a decimal, read back.
use Rattle.std.proofs.Common.{◌≡◌, ℕ, false, true, List, ◌++◌, refl, sym, subst, ap, ◌∙◌, arith}
use Rattle.std.proofs.Common.{append-nil, inl, inr, None, Bool, ℤ, pos, negsuc}
use Rattle.std.proofs.lemmas.Int.{ints}
use Rattle.interpolator_render.specs.declared.view.Alignment.TheVariants.{Center, Left, Right}
use Rattle.interpolator_render.specs.declared.view.Alignment.TheVariants.{Unset}
use Rattle.interpolator_render.specs.{declared.view.Alignment.Alignment, declared.view.Sign.Sign}
use Rattle.interpolator_render.specs.declared.view.Sign.TheVariants as signs
use Rattle.interpolator_render.specs.Numbers.{distance_from_zero, is_negative, sign_text}
use Rattle.interpolator_render.specs.declared.{view.Spec.Spec, view.Trait.TheVariants.Display}
use Rattle.interpolator_render.specs.{Padding.fill_before, Padding.padded_number, Texts.has_text}
use Rattle.interpolator_render.specs.{Texts.view_text, Views.decimal_number}
use Rattle.interpolator_digits.specs.Decimals.{decimal_text}
use Rattle.interpolator_render.proofs.DecimalLawLemmas.{plain_spelled}
use Rattle.interpolator.specs.DecimalTexts.{HasSign, SpellsDecimal, signed}

none_before : (alignment : Alignment) → fill_before alignment 0 0 ≡ 0
none_before Left = refl
none_before Right = refl
none_before Center = refl
none_before Unset = refl

unpadded : (spec : Spec) (front body : List ℕ) → spec.width ≡ None →
    padded_number spec front body ≡ front ++ body
unfolding padded_number
unpadded spec front body e = grind (arith, none_before spec.alignment, append-nil)

has_sign : (negative : Bool) (sign : Sign) (body : List ℕ) →
    HasSign (sign_text negative sign ++ body) body negative
has_sign true sign body = refl
has_sign false signs.Plus body = inr refl
has_sign false signs.Minus body = inl refl
has_sign false signs.Unset body = inl refl

signed_units : (units : ℤ) → units ≡ signed (is_negative units) (distance_from_zero units)
signed_units (pos n) = refl
signed_units (negsuc n) = omega (arith, ints)

spelled_plainly : (units : ℤ) (scale : ℕ) (sign : Sign) → SpellsDecimal
    (sign_text (is_negative units) sign ++ decimal_text None scale (distance_from_zero units))
    units scale
spelled_plainly units scale sign =
    let text = decimal_text None scale (distance_from_zero units) in
    let spelled = plain_spelled scale (distance_from_zero units) in
    record {
      negative = is_negative units;
      unsigned = text;
      before = spelled.before;
      after = spelled.after;
      sign = has_sign (is_negative units) sign text;
      parts = record {
        parts = spelled.parts;
        before_digits = spelled.before_digits;
        after_digits = spelled.after_digits;
      };
      value = signed_units units ∙ ap (signed (is_negative units)) (sym spelled.value);
      as_many = sym spelled.as_many;
    }

same_text : (text other : List ℕ) → has_text text ≡ has_text other → text ≡ other
same_text text other e = grind arith

-- without width and precision, a decimal is shown by a text that spells it
pub read_back : (units : ℤ) (scale : ℕ) (spec : Spec) (text : List ℕ) → spec.width ≡ None →
    spec.precision ≡ None → view_text (decimal_number units scale) Display spec ≡ has_text text →
    SpellsDecimal text units scale
unfolding view_text
read_back units scale spec text width precision shown =
    let front = sign_text (is_negative units) spec.sign in
    let body = decimal_text None scale (distance_from_zero units) in
    let plain = ap (λ p. decimal_text p scale (distance_from_zero units)) precision in
    let whole = same_text _ text shown in
    subst (λ t. SpellsDecimal t units scale)
    (sym (unpadded spec front body width) ∙ sym (ap (padded_number spec front) plain) ∙ whole)
    (spelled_plainly units scale spec.sign)
