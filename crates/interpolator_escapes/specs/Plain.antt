-- Characters of numbers, and under which traits and specs a value shows them alone.
use Rattle.std.specs.Prelude.{◌≡◌, ℕ, Bool, true, false, List, [], ◌∷◌, ◌==◌, ◌||◌, ◌&&◌, not}
use Rattle.interpolator_render.specs.{Padding.fill_of, declared.view.HexDebug.HexDebug}
use Rattle.interpolator_render.specs.declared.view.HexDebug.TheVariants.{No}
use Rattle.interpolator_render.specs.{declared.view.Sign.Sign, declared.view.Sign.TheVariants.Plus}
use Rattle.interpolator_render.specs.{declared.view.Spec.Spec, declared.view.Trait.Trait}
use Rattle.interpolator_render.specs.declared.view.Trait.TheVariants.{Debug}
use Rattle.interpolator_escapes.specs.Escapes.{is_between}

-- a digit, a letter of ASCII, `+`, `-`, `.` or a blank
abbrev pub is_plain : ℕ → Bool
is_plain c =
    is_between 48 57 c || is_between 97 122 c || is_between 65 90 c || (c == 43) || (c == 45)
    || (c == 46) || (c == 32)

-- so is each of a text
abbrev pub AllPlain : List ℕ → Type 0
AllPlain [] = Unit {0}
AllPlain (c ∷ cs) = (is_plain c ≡ true) × AllPlain cs

abbrev pub is_debug : Trait → Bool
is_debug Debug = true
is_debug _ = false

abbrev pub is_plus : Sign → Bool
is_plus Plus = true
is_plus _ = false

abbrev pub in_base_ten : HexDebug → Bool
in_base_ten No = true
in_base_ten _ = false

-- under debug, a number is one of JSON, with blanks around it: it has no `+`, no zeros before its
-- digits, no fill but blanks, and is in base ten
abbrev pub is_bare : Spec → Bool
is_bare spec =
    not (is_plus spec.sign) && not spec.zero && (fill_of spec == 32) && in_base_ten spec.hex_debug
