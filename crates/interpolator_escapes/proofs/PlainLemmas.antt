-- The text of a number or a truth value under debug has plain characters alone.
use Rattle.std.proofs.Common.{◌≡◌, ℕ, ℤ, zero, suc, ◌<◌, ◌==◌, ◌&&◌, Bool, true, false, List, []}
use Rattle.std.proofs.Common.{◌∷◌, ◌++◌, Option, Some, None, refl, sym, subst, arith, length, map}
use Rattle.std.proofs.Common.{take, replicate, ⊎_elim, eq-zero-or-pos, nat_lt, if◌then◌else◌, not}
use Rattle.std.proofs.{lemmas.Bool.Decides.nat_tests, lemmas.Int.Digits.all_below_base_digits_of}
use Rattle.std.specs.Float.{Float, Format, nan, inf, fin}
use Rattle.std.specs.{Fmt.digit_glyph, Int.Digits.AllBelowBase, Int.Digits.digits_of}
use Rattle.interpolator_digits.specs.Decimals.{after_point, placed, units_text, decimal_text}
use Rattle.interpolator_digits.specs.Decimals.{decimal_exponent_text, scaled_tail}
use Rattle.interpolator_digits.specs.Digits.{digit_text}
use Rattle.interpolator_digits.specs.Exponent.{less_zeros, significant_digits, with_point}
use Rattle.interpolator_digits.specs.Exponent.{scientific}
use Rattle.interpolator_digits.proofs.DecimalLemmas.{placed_none, placed_some}
use Rattle.interpolator_digits.proofs.DigitLemmas.{digit_text_map, digit_text_zero}
use Rattle.interpolator_floats.specs.ShortestDigits.{shortest, shortest_exponent_text}
use Rattle.interpolator_floats.specs.declared.shortest.Shortest.{Shortest}
use Rattle.interpolator_render.specs.Forms.{debugged, float_body, float_front, is_far}
use Rattle.interpolator_render.specs.Numbers.{number_form, number_text, sign_text, magnitude}
use Rattle.interpolator_render.specs.Numbers.{is_negative, distance_from_zero}
use Rattle.interpolator_render.specs.Numbers.{has_minus as is_minus}
use Rattle.interpolator_render.specs.Padding.{fill_of, padded_number, padded_text, between_fill}
use Rattle.interpolator_render.specs.Padding.{displayed_text}
use Rattle.interpolator_render.specs.Texts.{ViewText, has_text, has_no_text, has_failed, view_text}
use Rattle.interpolator_render.specs.Texts.{in_form, padded_float, truth_text}
use Rattle.interpolator_render.specs.Views.{Shown, signed_number, unsigned_number, truth_value}
use Rattle.interpolator_render.specs.Views.{decimal_number, float_number, one_character, some_text}
use Rattle.interpolator_render.specs.Views.{plain_text, nothing_implemented, failure}
use Rattle.interpolator_render.specs.declared.view.HexDebug.TheVariants.{No, Lower, Upper}
use Rattle.interpolator_render.specs.{Characters.cut, declared.view.Bits.Bits}
use Rattle.interpolator_render.specs.{declared.view.HexDebug.HexDebug, declared.view.Sign.Sign}
use Rattle.interpolator_render.specs.declared.view.Sign.TheVariants as signs
use Rattle.interpolator_render.specs.declared.{view.Spec.Spec, view.Trait.TheVariants.Debug}
use Rattle.interpolator_escapes.specs.Plain.{AllPlain, is_plain, is_bare, is_plus, in_base_ten}
use Rattle.interpolator_escapes.specs.{Fields.field_text, Wholes.whole_text}
use Rattle.interpolator_escapes.proofs.KeepLemmas.{choose}

-- ---- texts

pub plain_both : (xs ys : List ℕ) → AllPlain xs → AllPlain ys → AllPlain (xs ++ ys)
plain_both [] ys h k = k
plain_both (x ∷ xs) ys h k = (h.0, plain_both xs ys h.1 k)

plain_copies : (n c : ℕ) → is_plain c ≡ true → AllPlain (replicate n c)
plain_copies zero c h = tt
plain_copies (suc n) c h = (h, plain_copies n c h)

plain_glyph : (d : ℕ) → d < 10 → is_plain (digit_glyph false d) ≡ true
plain_glyph d h = grind (arith, nat_tests)

plain_glyphs : (ds : List ℕ) → AllBelowBase 10 ds → AllPlain (map (digit_glyph false) ds)
plain_glyphs [] h = tt
plain_glyphs (d ∷ ds) h = (plain_glyph d h.0, plain_glyphs ds h.1)

plain_digits : (n : ℕ) → AllPlain (digit_text 10 false n)
plain_digits n = ⊎_elim
    (λ none. subst AllPlain (sym (digit_text_zero 10 false n none)) (refl, tt))
    (λ some. subst AllPlain (sym (digit_text_map 10 n false some))
    (plain_glyphs (digits_of 10 n) (all_below_base_digits_of 10 n (omega arith))))
    (eq-zero-or-pos n)

-- ---- decimals

plain_point : (ds : List ℕ) → AllPlain ds → AllPlain (after_point ds)
plain_point [] h = tt
plain_point (d ∷ ds) h = (refl, h)

plain_placed : (places part : ℕ) → AllPlain (placed places part)
plain_placed places part = ⊎_elim
    (λ none. subst AllPlain (sym (placed_none places part none)) tt)
    (λ some. subst AllPlain (sym (placed_some places part some))
    (plain_both (replicate _ 48) (digit_text 10 false part) (plain_copies _ 48 refl)
    (plain_digits part)))
    (eq-zero-or-pos places)

plain_units : (places count : ℕ) → AllPlain (units_text places count)
plain_units places count =
    plain_both _ _ (plain_digits _) (plain_point (placed places _) (plain_placed places _))

plain_decimal : (precision : Option ℕ) (scale units : ℕ)
    → AllPlain (decimal_text precision scale units)
unfolding decimal_text
plain_decimal precision scale units = plain_units _ _

-- ---- exponents

plain_less : (ds : List ℕ) → AllPlain ds → AllPlain (less_zeros ds)
plain_less [] h = tt
plain_less (d ∷ ds) h =
    choose AllPlain ((d == 48) && (length (less_zeros ds) == 0)) [] (d ∷ less_zeros ds) (λ e. tt)
    (λ e. (h.0, plain_less ds h.1))

plain_significant : (ds : List ℕ) → AllPlain ds → AllPlain (significant_digits ds)
plain_significant [] h = tt
plain_significant (d ∷ ds) h = (h.0, plain_less ds h.1)

plain_with_point : (ds : List ℕ) → AllPlain ds → AllPlain (with_point ds)
plain_with_point [] h = tt
plain_with_point (d ∷ []) h = h
plain_with_point (d ∷ e ∷ ds) h = (h.0, (refl, h.1))

plain_tail : (exponent scale : ℕ) → AllPlain (scaled_tail false exponent scale)
plain_tail exponent scale =
    choose AllPlain (nat_lt exponent scale) _ _ (λ e. (refl, (refl, plain_digits _)))
    (λ e. (refl, plain_digits _))

plain_exponent : (shown : Shortest) → AllPlain (shortest_exponent_text false shown)
unfolding decimal_exponent_text scientific
plain_exponent shown =
    plain_both _ _
    (plain_with_point (significant_digits (digit_text 10 false _))
    (plain_significant (digit_text 10 false _) (plain_digits _)))
    (plain_tail _ _)

-- ---- numbers

plain_sign : (negative : Bool) (sign : Sign) → AllPlain (sign_text negative sign)
plain_sign true sign = (refl, tt)
plain_sign false signs.Plus = (refl, tt)
plain_sign false signs.Minus = tt
plain_sign false signs.Unset = tt

plain_padded : (spec : Spec) (front body : List ℕ) → fill_of spec ≡ 32 → AllPlain front
    → AllPlain body → AllPlain (padded_number spec front body)
unfolding padded_number
plain_padded spec front body fill f b =
    choose AllPlain spec.zero _ _
    (λ e. plain_both front _ f (plain_both (replicate _ 48) body (plain_copies _ 48 refl) b))
    (λ e. rw fill (plain_both (replicate _ 32) _ (plain_copies _ 32 refl)
    (plain_both (front ++ body) (replicate _ 32) (plain_both front body f b)
    (plain_copies _ 32 refl))))

-- digits in base ten, after their sign
plain_number : (spec : Spec) (negative : Bool) (n : ℕ) → fill_of spec ≡ 32
    → AllPlain (padded_number spec (sign_text negative spec.sign
    ++ (if spec.alternate then [] else [])) (digit_text 10 false n))
plain_number spec negative n fill =
    plain_padded spec _ (digit_text 10 false n) fill
    (plain_both (sign_text negative spec.sign) _ (plain_sign negative spec.sign)
    (choose AllPlain spec.alternate [] [] (λ e. tt) (λ e. tt))) (plain_digits n)

plain_debugged : (shown : Shortest) → AllPlain (debugged shown)
plain_debugged shown =
    choose AllPlain (is_far shown.down _) _ _ (λ e. plain_exponent shown)
    (λ e. plain_decimal _ _ _)

plain_float_front : (x : Float) (sign : Sign) → AllPlain (float_front x sign)
plain_float_front nan sign = tt
plain_float_front (inf s) sign = plain_sign s sign
plain_float_front (fin s m e) sign = plain_sign s sign

-- a text, if there is one, has plain characters alone
abbrev PlainBody : Option (List ℕ) → Type 0
PlainBody None = Unit {0}
PlainBody (Some cs) = AllPlain cs

plain_body : (format : Format) (precision : Option ℕ) (x : Float)
    → PlainBody (float_body format Debug precision x)
plain_body format None nan = (refl, (refl, (refl, tt)))
plain_body format (Some places) nan = (refl, (refl, (refl, tt)))
plain_body format None (inf s) = (refl, (refl, (refl, tt)))
plain_body format (Some places) (inf s) = (refl, (refl, (refl, tt)))
plain_body format None (fin s m e) = plain_debugged (shortest format (fin s m e))
plain_body format (Some places) (fin s m e) = plain_decimal _ _ _

-- ---- truth values

plain_front_of : (n : ℕ) (cs : List ℕ) → AllPlain cs → AllPlain (take n cs)
plain_front_of zero cs h = tt
plain_front_of (suc n) [] h = tt
plain_front_of (suc n) (c ∷ cs) h = (h.0, plain_front_of n cs h.1)

plain_word : (truth : Bool) → AllPlain (truth_text truth)
plain_word true = (refl, (refl, (refl, (refl, tt))))
plain_word false = (refl, (refl, (refl, (refl, (refl, tt)))))

plain_cut : (precision : Option ℕ) (truth : Bool) → AllPlain (cut precision (truth_text truth))
plain_cut None truth = plain_word truth
plain_cut (Some n) truth = plain_front_of n (truth_text truth) (plain_word truth)

plain_between : (c before after : ℕ) (text : List ℕ) → is_plain c ≡ true → AllPlain text
    → AllPlain (between_fill c before after text)
plain_between c before after text h t =
    plain_both (replicate before c) _ (plain_copies before c h)
    (plain_both text (replicate after c) t (plain_copies after c h))

plain_truth : (spec : Spec) (truth : Bool) → fill_of spec ≡ 32
    → AllPlain (displayed_text spec (truth_text truth))
unfolding padded_text
plain_truth spec truth fill =
    rw fill (plain_between 32 _ _ (cut spec.precision (truth_text truth)) refl
    (plain_cut spec.precision truth))

-- ---- views

bare_parts : (p z f h : Bool) → (p && z && f && h) ≡ true → (f ≡ true) × (h ≡ true)
bare_parts true true true true e = (refl, refl)
bare_parts false z f h e = absurd (cc)
bare_parts true false f h e = absurd (cc)
bare_parts true true false h e = absurd (cc)
bare_parts true true true false e = absurd (cc)

blank_fill : (spec : Spec) → is_bare spec ≡ true → fill_of spec ≡ 32
blank_fill spec h =
    let f = (bare_parts (not (is_plus spec.sign)) (not spec.zero) (fill_of spec == 32) (in_base_ten spec.hex_debug) h).0 in
    grind (arith, nat_tests)

base_ten : (spec : Spec) → is_bare spec ≡ true → in_base_ten spec.hex_debug ≡ true
base_ten spec h = (bare_parts (not (is_plus spec.sign)) (not spec.zero) (fill_of spec == 32) (in_base_ten spec.hex_debug) h).1

-- a view's text, if there is one, has plain characters alone
abbrev pub PlainView : ViewText → Type 0
PlainView (has_text cs) = AllPlain cs
PlainView has_no_text = Unit {0}
PlainView has_failed = Unit {0}

plain_signed : (spec : Spec) (z : ℤ) (bits : Bits) (hex : HexDebug) → in_base_ten hex ≡ true
    → fill_of spec ≡ 32
    → PlainView (in_form (number_form Debug hex)
    (λ form. number_text form spec (is_minus form z) (magnitude form z bits)))
plain_signed spec z bits No h fill = plain_number spec (is_negative z) (distance_from_zero z) fill
plain_signed spec z bits Lower h fill = absurd (cc)
plain_signed spec z bits Upper h fill = absurd (cc)

plain_unsigned : (spec : Spec) (n : ℕ) (hex : HexDebug) → in_base_ten hex ≡ true
    → fill_of spec ≡ 32
    → PlainView (in_form (number_form Debug hex) (λ form. number_text form spec false n))
plain_unsigned spec n No h fill = plain_number spec false n fill
plain_unsigned spec n Lower h fill = absurd (cc)
plain_unsigned spec n Upper h fill = absurd (cc)

plain_float : (spec : Spec) (x : Float) (body : Option (List ℕ)) → fill_of spec ≡ 32
    → PlainBody body → PlainView (padded_float spec x body)
plain_float spec x None fill h = tt
plain_float spec x (Some body) fill h =
    plain_padded spec (float_front x spec.sign) body fill (plain_float_front x spec.sign) h

pub plain_debug : (shown : Shown) (spec : Spec) → field_text shown ≡ None → is_bare spec ≡ true
    → PlainView (view_text shown Debug spec)
unfolding view_text
plain_debug (signed_number z bits) spec w h =
    plain_signed spec z bits spec.hex_debug (base_ten spec h) (blank_fill spec h)
plain_debug (unsigned_number n) spec w h =
    plain_unsigned spec n spec.hex_debug (base_ten spec h) (blank_fill spec h)
plain_debug (truth_value truth) spec w h = plain_truth spec truth (blank_fill spec h)
plain_debug (decimal_number units scale) spec w h =
    plain_padded spec (sign_text _ spec.sign) _ (blank_fill spec h) (plain_sign _ spec.sign)
    (plain_decimal spec.precision scale _)
plain_debug (float_number format x) spec w h =
    plain_float spec x _ (blank_fill spec h) (plain_body format spec.precision x)
plain_debug (one_character c) spec w h = absurd (cc)
plain_debug (some_text text) spec w h = absurd (cc)
plain_debug (plain_text text) spec w h = absurd (cc)
plain_debug nothing_implemented spec w h = tt
plain_debug failure spec w h = tt

-- what has no whole value of its own is no whole field either
no_field : (shown : Shown) → whole_text shown ≡ None → field_text shown ≡ None
no_field (some_text text) w = absurd (cc)
no_field (plain_text text) w = absurd (cc)
no_field (one_character c) w = absurd (cc)
no_field (signed_number z bits) w = refl
no_field (unsigned_number n) w = refl
no_field (truth_value truth) w = refl
no_field (decimal_number units scale) w = refl
no_field (float_number format x) w = refl
no_field nothing_implemented w = refl
no_field failure w = refl

pub plain_view : (shown : Shown) (spec : Spec) → whole_text shown ≡ None → is_bare spec ≡ true
    → PlainView (view_text shown Debug spec)
plain_view shown spec w h = plain_debug shown spec (no_field shown w) h
