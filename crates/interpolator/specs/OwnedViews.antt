-- What a value shows that owns its text.
use Rattle.std.specs.Prelude.{if◌then◌else◌, string_bytes}
use Rattle.std.specs.{Float.binary32, Float.binary64, Str.chars}
use Rattle.interpolator_render.specs.Views.{Shown, signed_number, unsigned_number, truth_value}
use Rattle.interpolator_render.specs.Views.{decimal_number, float_number, one_character, some_text}
use Rattle.interpolator_render.specs.Views.{failure, fits_signed}
use Rattle.interpolator.specs.declared.owned_view.OwnedView.{OwnedView}
use Rattle.interpolator.specs.declared.owned_view.OwnedView.TheVariants as owned

-- the value itself; a failure for a signed number outside its width, and for a value that failed
abbrev pub owned_shows : OwnedView → Shown
owned_shows (owned.Signed number bits) =
    if fits_signed number bits then signed_number number bits else failure
owned_shows (owned.Unsigned number) = unsigned_number number
owned_shows (owned.Truth truth) = truth_value truth
owned_shows (owned.Decimal units scale) = decimal_number units scale
owned_shows (owned.Float number) = float_number binary64 number
owned_shows (owned.Float32 number) = float_number binary32 number
owned_shows (owned.Character c) = one_character c
owned_shows (owned.Text text) = some_text (chars (string_bytes text))
owned_shows owned.Failed = failure
