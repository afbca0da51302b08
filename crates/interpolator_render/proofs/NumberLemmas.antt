-- The parts of a number are its padded text.
use Rattle.std.proofs.Common.{length-append, ◌≡◌, ℕ, ◌+◌, ◌-◌, ◌^◌, ◌<◌, min, Bool, true, false}
use Rattle.std.proofs.Common.{List, [], ◌++◌, length, sym, append_assoc, append-nil, replicate}
use Rattle.std.proofs.Common.{arith, None, unwrap_or, ◌≤◌}
use Rattle.interpolator_render.specs.declared.view.Alignment.{Alignment}
use Rattle.interpolator_render.specs.declared.number_form.NumberForm.TheVariants.{Digits as InDigits}
use Rattle.interpolator_render.specs.declared.number_form.Radix.TheVariants.{Decimal}
use Rattle.interpolator_render.specs.declared.view.Sign.TheVariants.{Unset as NoSign}
use Rattle.interpolator_render.specs.declared.view.Spec.{Spec}
use Rattle.interpolator_digits.specs.Digits.{digit_text}
use Rattle.interpolator_render.specs.Numbers.{number_text, sign_text}
use Rattle.interpolator_render.specs.Padding.{fill_of, missing_to, number_fill, padded_number}
use Rattle.interpolator_render.specs.Padding.{fill_before, IsNumberLayout}

-- what goes before a text is a part of what is missing
pub before_within : (alignment : Alignment) (missing unset : ℕ) → unset ≤ missing →
    fill_before alignment missing unset ≤ missing
before_within alignment missing unset h = grind arith

-- the parts of a number, written in order, are its padded text
pub number_parts : (spec : Spec) (sign prefix head tail : List ℕ)
    (count before padding trailing after : ℕ) →
    count ≡ min (length (sign ++ prefix) + length (head ++ (replicate trailing 48 ++ tail)))
    (2 ^ 64 - 1) →
    IsNumberLayout spec count before padding after →
    replicate before (fill_of spec) ++ (sign ++ (prefix
    ++ (replicate padding 48 ++ (head ++ (replicate trailing 48
    ++ (tail ++ (replicate after (fill_of spec) ++ [])))))))
    ≡ padded_number spec (sign ++ prefix) (head ++ (replicate trailing 48 ++ tail))
unfolding padded_number
number_parts spec sign prefix head tail count before padding trailing after n l =
    grind (arith, append-nil, append_assoc)

-- a number under the zero flag, written from its end to its front
pub zero_padded : (spec : Spec) (front body : List ℕ) (missing fill : ℕ) → spec.zero ≡ true →
    fill ≡ number_fill spec → missing ≡ missing_to spec (length front + length body) →
    front ++ (replicate missing fill ++ body) ≡ padded_number spec front body
unfolding padded_number
zero_padded spec front body missing fill z f e = grind arith

-- and another
pub fill_padded : (spec : Spec) (front body : List ℕ) (missing before fill : ℕ) →
    spec.zero ≡ false → fill ≡ number_fill spec →
    missing ≡ missing_to spec (length front + length body) →
    before ≡ fill_before spec.alignment missing missing →
    (replicate before fill ++ (front ++ body)) ++ replicate (missing - before) fill
    ≡ padded_number spec front body
unfolding padded_number
fill_padded spec front body missing before fill z f e b = grind (arith, append_assoc)

-- and a number as wide as its width, or wider
pub nothing_padded : (spec : Spec) (front body : List ℕ) → spec.zero ≡ false →
    0 ≡ missing_to spec (length front + length body) → front ++ body ≡ padded_number spec front body
unfolding padded_number
nothing_padded spec front body z m = grind (arith, before_within, append-nil)

-- a number without a width
pub unpadded : (spec : Spec) (front body : List ℕ) → spec.width ≡ None →
    front ++ body ≡ padded_number spec front body
unfolding padded_number
unpadded spec front body w = grind (arith, before_within, append-nil)

-- a number that is written by its digits alone, after a minus if it is negative
pub bare_number : (spec : Spec) (negative : Bool) (n : ℕ) → spec.width ≡ None →
    spec.zero ≡ false → spec.alternate ≡ false → spec.sign ≡ NoSign →
    number_text (InDigits Decimal) spec negative n
    ≡ sign_text negative NoSign ++ digit_text 10 false n
bare_number spec negative n w z a s = grind (arith, nothing_padded, append-nil)

-- and a body whose front is its sign
pub bare_body : (spec : Spec) (negative : Bool) (body : List ℕ) → spec.width ≡ None →
    spec.zero ≡ false → spec.sign ≡ NoSign →
    padded_number spec (sign_text negative spec.sign) body ≡ sign_text negative NoSign ++ body
unfolding padded_number
bare_body spec negative body w z s = grind (arith, nothing_padded)

pub ruleset bare_texts = (bare_number, bare_body)

pub ruleset row_paddings = (fill_padded, length-append, nothing_padded, unpadded, zero_padded)
