-- Reading CSV: records and fields, which may stand between quotes.
use Rattle.std.specs.Prelude.{ℕ, List, [], ◌∷◌, ◌==◌, ◌||◌, if◌then◌else◌, Bool, true, false}
use Rattle.interpolator_render.specs.{declared.view.Spec.Spec, declared.view.Trait.Trait}
use Rattle.interpolator_escapes.specs.Readers.{Token, content, structure}

-- where a reader is: at a field's beginning, in a field without quotes, between quotes, or after a
-- quote between quotes
pub data CsvState : Type 0 where
  field_start : CsvState
  bare : CsvState
  quoted : CsvState
  quote_seen : CsvState

-- `,`, a carriage return or a newline
abbrev pub ends_field : ℕ → Bool
ends_field c = (c == 44) || (c == 13) || (c == 10)

-- a character that is not between quotes
abbrev pub bare_step : ℕ → CsvState × List Token
bare_step c = if ends_field c then (field_start, structure c ∷ []) else (bare, content c ∷ [])

-- a quote begins a field with quotes, or ends it, or is the second of two, which are one in it
abbrev pub csv_step : CsvState → ℕ → CsvState × List Token
csv_step field_start c = if c == 34 then (quoted, structure c ∷ []) else bare_step c
csv_step bare c = bare_step c
csv_step quoted c = if c == 34 then (quote_seen, []) else (quoted, content c ∷ [])
csv_step quote_seen c = if c == 34 then (quoted, content c ∷ []) else bare_step c

-- a value may stand between quotes
abbrev pub is_between_quotes : CsvState → Bool
is_between_quotes quoted = true
is_between_quotes _ = false

abbrev pub is_csv_place : CsvState → Trait → Spec → Bool
is_csv_place s t spec = is_between_quotes s
