-- Floats under a trait and a spec: the sign, the word, and the digits.
use Rattle.std.proofs.Common.{◌≡◌, ℕ, Bool, true, false, [], refl, arith, None, Some, rules, ◌++◌}
use Rattle.std.proofs.Common.{ap, sym, ◌∙◌}
use Rattle.std.specs.Float.{Float, Format, nan, inf, fin, float_is_finite, binary64}
use lib.Ieee.{is_nan}
use Rattle.interpolator_floats.specs.declared.shortest.Shortest.{Shortest}
use Rattle.interpolator_floats.specs.Floats.{float_scale, float_units, float_word, has_minus}
use Rattle.interpolator_floats.specs.ShortestDigits.{shortest, shortest_text}
use Rattle.interpolator_render.specs.Forms.{decimal_body, float_body, float_front, short_body}
use Rattle.interpolator_render.specs.Forms.{worded}
use Rattle.interpolator_render.specs.Texts.{has_text, padded_decimal, padded_float}
use Rattle.interpolator_render.specs.declared.{view.Sign.Sign, view.Spec.Spec}
use Rattle.interpolator_render.specs.declared.{view.Sign.TheVariants.Unset, view.Trait.Trait}
use Rattle.interpolator_render.specs.declared.view.Trait.TheVariants.{Display}
use Rattle.interpolator_render.specs.{Numbers.IsShortAscii, Numbers.sign_text, Padding.unset_spec}
use Rattle.interpolator_render.proofs.NumberLemmas.{bare_body}

-- ---- sign and word

pub front_nan : (x : Float) (sign : Sign) → is_nan x ≡ true → [] ≡ float_front x sign
unfolding is_nan
front_nan nan sign e = refl
front_nan (inf s) sign e = absurd (grind arith)
front_nan (fin s m k) sign e = absurd (grind arith)

pub front_other : (x : Float) (sign : Sign) → is_nan x ≡ false
    → sign_text (has_minus x) sign ≡ float_front x sign
unfolding is_nan
front_other nan sign e = absurd (grind arith)
front_other (inf s) sign e = refl
front_other (fin s m k) sign e = refl

pub ruleset fronts = (front_nan, front_other)

pub word_ascii : (x : Float) → IsShortAscii (float_word x)
word_ascii nan = search rules
word_ascii (inf s) = search rules
word_ascii (fin s m k) = search rules

-- ---- digits

pub word_shown : (format : Format) (t : Trait) (spec : Spec) (x : Float) → float_is_finite x ≡ false
    → padded_float spec x (worded t (float_word x))
    ≡ padded_float spec x (float_body format t spec.precision x)
unfolding float_is_finite
word_shown format t spec nan e = grind arith
word_shown format t spec (inf s) e = grind arith
word_shown format t spec (fin s m k) e = absurd (grind arith)

pub short_shown : (format : Format) (t : Trait) (spec : Spec) (x : Float) (shown : Shortest)
    (negative : Bool) → float_is_finite x ≡ true → spec.precision ≡ None
    → shown ≡ shortest format x → negative ≡ has_minus x
    → padded_decimal spec negative (short_body t shown)
    ≡ padded_float spec x (float_body format t spec.precision x)
unfolding float_is_finite
short_shown format t spec nan shown negative f p d n = absurd (grind arith)
short_shown format t spec (inf s) shown negative f p d n = absurd (grind arith)
short_shown format t spec (fin s m k) shown negative f p d n = grind arith

pub places_shown : (format : Format) (t : Trait) (spec : Spec) (x : Float) (places : ℕ)
    → float_is_finite x ≡ true → spec.precision ≡ Some places
    → padded_decimal spec (has_minus x)
    (decimal_body t (Some places) (float_scale x) (float_units x))
    ≡ padded_float spec x (float_body format t spec.precision x)
unfolding float_is_finite
places_shown format t spec nan places f p = absurd (grind arith)
places_shown format t spec (inf s) places f p = absurd (grind arith)
places_shown format t spec (fin s m k) places f p = grind arith

pub ruleset float_texts = (word_shown, short_shown, places_shown)

-- under the spec that sets nothing

pub plain_word : (x : Float) → float_is_finite x ≡ false
    → padded_float unset_spec x (worded Display (float_word x))
    ≡ padded_float unset_spec x (float_body binary64 Display None x)
plain_word x f = word_shown binary64 Display unset_spec x f

pub plain_shown : (x : Float) (shown : Shortest) (negative : Bool) → float_is_finite x ≡ true
    → shown ≡ shortest binary64 x → negative ≡ has_minus x
    → has_text (sign_text negative Unset ++ shortest_text shown)
    ≡ padded_float unset_spec x (float_body binary64 Display None x)
plain_shown x shown negative f d n =
    ap has_text (sym (bare_body unset_spec negative (shortest_text shown) refl refl refl))
    ∙ short_shown binary64 Display unset_spec x shown negative f refl d n

pub ruleset plain_texts = (plain_word, plain_shown)
