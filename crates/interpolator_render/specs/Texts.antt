-- The text of a view, and what `render` returns for it.
use Rattle.std.specs.Prelude.{◌≡◌, Bool, true, false, ℕ, List, [], ◌∷◌, Option, Some, None, Result}
use Rattle.std.specs.Prelude.{Ok, Err, codes}
use Rattle.std.specs.Float.Ieee.{Float}
use Rattle.interpolator_render.specs.declared.view.RenderFault.TheVariants.{Refused}
use Rattle.interpolator_render.specs.declared.view.RenderFault.TheVariants.{}
use Rattle.interpolator_render.specs.declared.view.RenderFault.TheVariants.{NotImplemented as Nothing}
use Rattle.interpolator_render.specs.declared.view.RenderFault.TheVariants.{Failed as FailedFault}
use Rattle.interpolator_render.specs.declared.view.Trait.TheVariants.{Debug, Display}
use Rattle.interpolator_render.specs.Characters.{double_quote, single_quote}
use Rattle.interpolator_render.specs.Forms.{decimal_body, float_body, float_front}
use Rattle.interpolator_render.specs.Numbers.{number_form, number_text, has_minus, magnitude}
use Rattle.interpolator_render.specs.Numbers.{distance_from_zero, is_negative, sign_text}
use Rattle.interpolator_render.specs.Padding.{displayed_text, padded_number}
use Rattle.interpolator_render.specs.Views.{Shown, signed_number, unsigned_number, truth_value}
use Rattle.interpolator_render.specs.Views.{decimal_number, float_number, one_character, some_text}
use Rattle.interpolator_render.specs.Views.{plain_text, nothing_implemented, failure}
use Rattle.interpolator_render.specs.Writers.{Written, Appends, AppendsBeginning}
use Rattle.interpolator_render.specs.declared.number_form.NumberForm.{NumberForm}
use Rattle.interpolator_render.specs.declared.text_write.Refusal.{Refusal}
use Rattle.interpolator_render.specs.declared.view.RenderFault.{RenderFault}
use Rattle.interpolator_render.specs.{declared.view.Spec.Spec, declared.view.Trait.Trait}
use Rattle.interpolator_render.specs.Quoting.{quotation}

-- a text, or one of the two reasons why there is none
pub data ViewText : Type 0 where
  has_text : List ℕ → ViewText
  has_no_text : ViewText
  has_failed : ViewText

-- a number's text in the form that the trait writes, if it writes numbers
abbrev pub in_form : Option NumberForm → (NumberForm → List ℕ) → ViewText
in_form None text = has_no_text
in_form (Some form) text = has_text (text form)

-- a decimal's text in the form that the trait writes, if it writes decimals, after its sign and
-- padded
abbrev pub padded_decimal : Spec → (negative : Bool) → Option (List ℕ) → ViewText
padded_decimal spec negative None = has_no_text
padded_decimal spec negative (Some body) =
    has_text (padded_number spec (sign_text negative spec.sign) body)

-- a float's text in the form that the trait writes, if it writes floats, after its sign and padded
abbrev pub padded_float : Spec → Float → Option (List ℕ) → ViewText
padded_float spec x None = has_no_text
padded_float spec x (Some body) = has_text (padded_number spec (float_front x spec.sign) body)

-- the text of a truth value
abbrev pub truth_text : Bool → List ℕ
truth_text true = codes "true"
truth_text false = codes "false"

-- a text under display or debug, or nothing under any other trait
abbrev pub under : Trait → List ℕ → List ℕ → ViewText
under Display displayed debugged = has_text displayed
under Debug displayed debugged = has_text debugged
under _ displayed debugged = has_no_text

-- the text of what a view shows, under a trait and a spec
unfoldable pub view_text : Shown → Trait → Spec → ViewText
view_text (signed_number z bits) t spec =
    in_form (number_form t spec.hex_debug)
    (λ form. number_text form spec (has_minus form z) (magnitude form z bits))
view_text (unsigned_number n) t spec =
    in_form (number_form t spec.hex_debug) (λ form. number_text form spec false n)
view_text (truth_value truth) t spec =
    under t (displayed_text spec (truth_text truth)) (displayed_text spec (truth_text truth))
view_text (decimal_number units scale) t spec =
    padded_decimal spec (is_negative units)
    (decimal_body t spec.precision scale (distance_from_zero units))
view_text (float_number format x) t spec =
    padded_float spec x (float_body format t spec.precision x)
view_text (one_character c) t spec =
    under t (displayed_text spec (c ∷ [])) (quotation single_quote (c ∷ []))
view_text (some_text text) t spec =
    under t (displayed_text spec text) (quotation double_quote text)
view_text (plain_text text) t spec = has_text text
view_text nothing_implemented t spec = has_no_text
view_text failure t spec = has_failed

-- `Ok` and exactly the text, or refused on the way, or the reason why there is none, with nothing
-- written
abbrev pub Renders : ViewText → Written → Result (Unit {0}) RenderFault → Written → Type 0
Renders (has_text text) old (Ok _) new = Appends old text new
Renders (has_text text) old (Err Refused) new = AppendsBeginning old text new
Renders has_no_text old (Err Nothing) new = new ≡ old
Renders has_failed old (Err FailedFault) new = new ≡ old
Renders _ _ _ _ = ⊥

-- a refusal of the writer as the result of `render`
abbrev pub render_answer : Result (Unit {0}) Refusal → Result (Unit {0}) RenderFault
render_answer (Ok x) = Ok x
render_answer (Err refusal) = Err Refused
