-- What a text is without options, and what `render` returns for what a writer returned.
use Rattle.std.proofs.Common.{rules, ◌≡◌, ℕ, List, refl, Result, None, Some, ℤ, ◌++◌, ◌∙◌, ap}
use Rattle.std.proofs.Common.{append-nil, arith, false}
use Rattle.interpolator_render.specs.Numbers.{number_form, number_text, has_minus, magnitude}
use Rattle.interpolator_render.specs.Numbers.{distance_from_zero, is_negative, sign_text}
use Rattle.interpolator_render.specs.Padding.{displayed_text, padded_text, unset_spec}
use Rattle.interpolator_render.specs.Texts.{ViewText, has_text, Renders, render_answer, view_text}
use Rattle.interpolator_render.specs.Views.{signed_number, some_text, unsigned_number}
use Rattle.interpolator_render.specs.Writers.{Written, Puts}
use Rattle.interpolator_render.specs.declared.number_form.NumberForm.{NumberForm}
use Rattle.interpolator_render.specs.declared.number_form.NumberForm.TheVariants.{}
use Rattle.interpolator_render.specs.declared.number_form.NumberForm.TheVariants.{Digits as InDigits}
use Rattle.interpolator_render.specs.declared.number_form.Radix.TheVariants.{Decimal}
use Rattle.interpolator_render.specs.{declared.text_write.Refusal.Refusal, declared.view.Bits.Bits}
use Rattle.interpolator_render.specs.declared.view.RenderFault.{RenderFault}
use Rattle.interpolator_render.specs.declared.view.Sign.TheVariants.{Unset as NoSign}
use Rattle.interpolator_render.specs.{declared.view.Spec.Spec, declared.view.Trait.Trait}
use Rattle.interpolator_render.specs.declared.view.Trait.TheVariants.{Display}
use Rattle.interpolator_digits.specs.Digits.{digit_text}
use Rattle.interpolator_render.proofs.NumberLemmas.{bare_number, before_within}

-- with neither precision nor width, a text is displayed as it is
pub displayed_as_it_is : (spec : Spec) (text : List ℕ) → spec.precision ≡ None →
    spec.width ≡ None → displayed_text spec text ≡ text
unfolding padded_text
displayed_as_it_is spec text p w = grind (arith, before_within, append-nil)

-- what a writer returned is what `render` returns
pub renders_puts : (old new : Written) (text : List ℕ) (answer : Result (Unit {0}) Refusal)
    (meaning : ViewText) (result : Result (Unit {0}) RenderFault) →
    meaning ≡ has_text text → result ≡ render_answer answer → Puts old text answer new →
    Renders meaning old result new
renders_puts old new text answer meaning result e f p = grind arith

pub signed_text : (z : ℤ) (bits : Bits) (t : Trait) (spec : Spec) (form : NumberForm) →
    number_form t spec.hex_debug ≡ Some form →
    view_text (signed_number z bits) t spec
    ≡ has_text (number_text form spec (has_minus form z) (magnitude form z bits))
unfolding view_text
signed_text z bits t spec form e = rw e refl

pub unsigned_text : (n : ℕ) (t : Trait) (spec : Spec) (form : NumberForm) →
    number_form t spec.hex_debug ≡ Some form →
    view_text (unsigned_number n) t spec ≡ has_text (number_text form spec false n)
unfolding view_text
unsigned_text n t spec form e = rw e refl

-- ---- displayed plainly

pub plain_text : (text : List ℕ) → view_text (some_text text) Display unset_spec ≡ has_text text
unfolding view_text
plain_text text = search (rules, displayed_as_it_is)

pub plain_unsigned : (n : ℕ) →
    view_text (unsigned_number n) Display unset_spec ≡ has_text (digit_text 10 false n)
plain_unsigned n = unsigned_text n Display unset_spec (InDigits Decimal) refl
    ∙ ap has_text (bare_number unset_spec false n refl refl refl refl)

pub plain_signed : (z : ℤ) (bits : Bits) →
    view_text (signed_number z bits) Display unset_spec
    ≡ has_text (sign_text (is_negative z) NoSign ++ digit_text 10 false (distance_from_zero z))
plain_signed z bits = signed_text z bits Display unset_spec (InDigits Decimal) refl
    ∙ ap has_text (bare_number unset_spec (is_negative z) (distance_from_zero z) refl refl refl refl)
