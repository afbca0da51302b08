-- The reader of each escape keeps the places of its escape.
use Rattle.std.proofs.Common.{◌≡◌, true, false}
use Rattle.interpolator_render.specs.{declared.view.Spec.Spec, declared.view.Trait.Trait}
use Rattle.interpolator_render.specs.{declared.view.Trait.TheVariants.Display, Views.Shown}
use Rattle.interpolator_syntax.specs.{Places.At, SpecTexts.plain_spec}
use Rattle.interpolator_escapes.specs.Languages.{language, PairedIn, StandsIn}
use Rattle.interpolator_escapes.specs.declared.escape.Escape.TheVariants.{Line, Html, Csv, Json}
use Rattle.interpolator_escapes.specs.declared.escape.Escape.TheVariants.{Shell}
use Rattle.interpolator_escapes.specs.{Escapes.escape_of, FormatParts.whole_parts}
use Rattle.interpolator_escapes.specs.{Placing.StandsFor, Readers.KeepsPlaces, Readers.KeepsPlain}
use Rattle.interpolator_escapes.specs.{Wholes.is_whole, declared.escape.Escape.Escape}
use Rattle.interpolator_escapes.proofs.FormatPartLemmas.{Leads}
use Rattle.interpolator_escapes.proofs.JsonLemmas.{json_inner, whole_leads}
use Rattle.interpolator_escapes.proofs.KeepLemmas.{line_keeps, html_keeps, csv_keeps, json_keeps}
use Rattle.interpolator_escapes.proofs.KeepLemmas.{shell_keeps, line_plain, html_plain, csv_plain}
use Rattle.interpolator_escapes.proofs.KeepLemmas.{json_plain, shell_plain}

pub keeps : (escape : Escape)
    → KeepsPlaces (language escape).step (language escape).is_place (escape_of escape)
keeps Line = line_keeps
keeps Html = html_keeps
keeps Csv = csv_keeps
keeps Json = json_keeps
keeps Shell = shell_keeps

pub keeps_plain : (escape : Escape)
    → KeepsPlain (language escape).step (language escape).is_place (escape_of escape)
keeps_plain Line = line_plain
keeps_plain Html = html_plain
keeps_plain Csv = csv_plain
keeps_plain Json = json_plain
keeps_plain Shell = shell_plain

-- a place of what is not written whole is one of what is displayed
pub inner : (escape : Escape) (s : (language escape).State) (t : Trait) (spec : Spec)
    → is_whole escape t ≡ false → (language escape).is_place s t spec ≡ true
    → (language escape).is_place s Display plain_spec ≡ true
inner Line s t spec w h = h
inner Html s t spec w h = h
inner Csv s t spec w h = h
inner Json s t spec w h = json_inner s t spec w h
inner Shell s t spec w h = h

-- a whole value leads to where it was
pub whole : (escape : Escape) (shown : Shown) (s : (language escape).State) (t : Trait) (spec : Spec)
    → is_whole escape t ≡ true → (language escape).is_place s t spec ≡ true
    → Leads (language escape).step (language escape).is_place s s (whole_parts shown spec)
whole Line shown s t spec w h = absurd (cc)
whole Html shown s t spec w h = absurd (cc)
whole Csv shown s t spec w h = absurd (cc)
whole Json shown s t spec w h = whole_leads shown s t spec w h
whole Shell shown s t spec w h = absurd (cc)

-- what a check says of a format, and that a line has no value after a backslash, is what reading back
-- asks
pub stands_in : (escape : Escape) (a : At) → StandsFor escape a → PairedIn escape a
    → StandsIn escape a
stands_in Line a stands paired = paired
stands_in Html a stands paired = stands
stands_in Csv a stands paired = stands
stands_in Json a stands paired = stands
stands_in Shell a stands paired = stands
