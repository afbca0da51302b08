-- The texts of what does not stand, as bytes of UTF-8.
use Rattle.std.specs.Prelude.{ℕ, List, ◌++◌, codes}
use Rattle.std.specs.Fmt.{decimal}
use Rattle.interpolator_escapes.specs.declared.escape.Escape.TheVariants.{Line, Html, Csv, Json}
use Rattle.interpolator_escapes.specs.declared.escape.Escape.TheVariants.{Shell}
use Rattle.interpolator_escapes.specs.declared.{escape.Escape.Escape, misplaced.Misplaced.Misplaced}
use Rattle.interpolator_escapes.specs.declared.misplaced.PlaceError.{PlaceError}
use Rattle.interpolator_escapes.specs.declared.misplaced.PlaceError.TheVariants as errors
use Rattle.interpolator_escapes.specs.declared.misplaced.Why.{Why}
use Rattle.interpolator_escapes.specs.declared.misplaced.Why.TheVariants.{Value, Item, Join, Fill}

abbrev pub why_text : Why → List ℕ
why_text Value = codes "this value is out of place"
why_text Item = codes "an item of this list ends elsewhere than it began"
why_text Join = codes "what is between two items of this list ends elsewhere than it began"
why_text Fill = codes "the character that pads this list is structure"

abbrev pub misplaced_text : Misplaced → List ℕ
misplaced_text m = codes "at " ++ (decimal m.place ++ (codes ": " ++ why_text m.why))

abbrev pub place_error_text : PlaceError → List ℕ
place_error_text (errors.Misplaced m) = misplaced_text m
place_error_text errors.NoMemory = codes "out of memory"

-- where a value may stand
abbrev pub places_text : Escape → List ℕ
places_text Line = codes "anywhere"
places_text Html = codes "in text, or between the quotes of an attribute that is a text"
places_text Csv = codes "between double quotes"
places_text Json = codes "in a string, or under `?` between strings"
places_text Shell = codes "between single quotes, with nothing but words before it"
