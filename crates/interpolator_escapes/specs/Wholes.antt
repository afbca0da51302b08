-- Values that are written whole: a value of JSON, of which a text has its quotes.
use Rattle.std.specs.Prelude.{ℕ, Bool, false, List, [], ◌∷◌, ◌++◌, codes, Option, Some, None}
use Rattle.std.specs.Prelude.{if◌then◌else◌}
use Rattle.std.specs.{Float.float_is_finite, List.flat_map}
use Rattle.interpolator_render.specs.Texts.{ViewText, has_text, has_no_text, has_failed, view_text}
use Rattle.interpolator_render.specs.Views.{Shown, some_text, plain_text, one_character}
use Rattle.interpolator_render.specs.Views.{float_number, nothing_implemented, failure}
use Rattle.interpolator_render.specs.{declared.view.Spec.Spec, declared.view.Trait.Trait}
use Rattle.interpolator_render.specs.declared.view.Trait.TheVariants.{Debug}
use Rattle.interpolator_escapes.specs.{Escapes.json_escape, Plain.is_debug}
use Rattle.interpolator_escapes.specs.declared.escape.Escape.{Escape}
use Rattle.interpolator_escapes.specs.declared.escape.Escape.TheVariants.{Json}

-- a view's text, escaped: after it was cut and padded
abbrev pub escaped_text : (escape : ℕ → List ℕ) → ViewText → Shown
escaped_text escape (has_text cs) = plain_text (flat_map escape cs)
escaped_text escape has_no_text = nothing_implemented
escaped_text escape has_failed = failure

-- whether a value is written whole: under debug, for JSON
abbrev pub is_whole : Escape → Trait → Bool
is_whole Json t = is_debug t
is_whole _ t = false

-- a string of JSON
abbrev pub json_string : List ℕ → List ℕ
json_string text = 34 ∷ (flat_map json_escape text ++ 34 ∷ [])

abbrev pub json_null : List ℕ
json_null = codes "null"

-- what is written whole in place of what debug shows: a text as a string, whatever width and
-- precision are; of a float that is not finite, `null`, since JSON has no such number
abbrev pub whole_text : Shown → Option (List ℕ)
whole_text (some_text text) = Some (json_string text)
whole_text (plain_text text) = Some (json_string text)
whole_text (one_character c) = Some (json_string (c ∷ []))
whole_text (float_number format x) = if float_is_finite x then None else Some json_null
whole_text _ = None

-- any other value is written as debug shows it
abbrev pub whole_view : Option (List ℕ) → Shown → Spec → Shown
whole_view (Some text) shown spec = plain_text text
whole_view None shown spec = escaped_text json_escape (view_text shown Debug spec)
