-- Where a record is in the code, as it is defined.
use Rattle.std.specs.Prelude.{◌≡◌, Result, Ok, Err}
use Rattle.interpolator_escapes.specs.CodeReaders.{csv_state}
use Rattle.interpolator_escapes.specs.RecordFormats.{Spot, in_state, field_end}
use Rattle.interpolator_escapes.specs.declared.misplaced.Misplaced.{Misplaced}
use Rattle.interpolator_escapes.specs.declared.records.Spot as code
use Rattle.interpolator_escapes.specs.declared.records.Spot.TheVariants as spots

abbrev pub spot_of : code.Spot → Spot
spot_of (spots.InState state) = in_state (csv_state state)
spot_of (spots.FieldEnd place) = field_end place

abbrev pub answer_of : Result code.Spot Misplaced → Result Spot Misplaced
answer_of (Ok spot) = Ok (spot_of spot)
answer_of (Err misplaced) = Err misplaced

-- the code answers this
abbrev pub AnswersAs : Result code.Spot Misplaced → Result Spot Misplaced → Type 0
AnswersAs answer what = answer_of answer ≡ what
