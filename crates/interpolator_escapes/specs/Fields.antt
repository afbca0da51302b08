-- Whole fields of CSV: what is written of a value where a field begins, and what comes back of it.
use Rattle.std.specs.Prelude.{ℕ, List, [], ◌∷◌, Option, Some, None, if◌then◌else◌}
use Rattle.interpolator_render.specs.Texts.{ViewText, has_text, view_text}
use Rattle.interpolator_render.specs.Views.{Shown, some_text, plain_text, one_character}
use Rattle.interpolator_render.specs.{declared.view.Spec.Spec, declared.view.Trait.Trait}
use Rattle.interpolator_render.specs.declared.view.Trait.TheVariants.{Debug}
use Rattle.interpolator_escapes.specs.{Escapes.csv_escape, Plain.is_debug, Records.quoted_field}
use Rattle.interpolator_escapes.specs.Wholes.{escaped_text}

-- a text between quotes, whatever width and precision are
abbrev pub field_text : Shown → Option (List ℕ)
field_text (some_text text) = Some (quoted_field text)
field_text (plain_text text) = Some (quoted_field text)
field_text (one_character c) = Some (quoted_field (c ∷ []))
field_text _ = None

-- any other value is written as debug shows it
abbrev pub field_view : Option (List ℕ) → Shown → Spec → Shown
field_view (Some text) shown spec = plain_text text
field_view None shown spec = escaped_text csv_escape (view_text shown Debug spec)

-- a whole field under debug, and the escaped text of a view under any other trait
abbrev pub record_view : Shown → Trait → Spec → Shown
record_view shown t spec =
    if is_debug t then field_view (field_text shown) shown spec
    else escaped_text csv_escape (view_text shown t spec)

-- values that are written so
abbrev pub record_shows : {X : Type 0} → (shows : X → Trait → Spec → Shown) → X → Trait → Spec
    → Shown
record_shows shows x t spec = record_view (shows x t spec) t spec

-- what comes back of a whole field: a text as it is, any other value as debug shows it
abbrev pub field_value : Shown → Spec → ViewText
field_value (some_text text) spec = has_text text
field_value (plain_text text) spec = has_text text
field_value (one_character c) spec = has_text (c ∷ [])
field_value shown spec = view_text shown Debug spec

-- what comes back of a value
abbrev pub record_value : Shown → Trait → Spec → ViewText
record_value shown t spec = if is_debug t then field_value shown spec else view_text shown t spec
