-- Padding: numbers and other texts, brought to their width.
use Rattle.std.specs.Prelude.{◌≡◌, ℕ, ◌+◌, ◌-◌, ◌/◌, ◌^◌, ◌<◌, ◌≤◌, true, false, List, ◌++◌, length}
use Rattle.std.specs.Prelude.{Option, None, Some, replicate, unwrap_or, if◌then◌else◌}
use Rattle.interpolator_render.specs.declared.view.Alignment.{Alignment}
use Rattle.interpolator_render.specs.declared.view.Alignment.TheVariants.{Unset, Left, Center}
use Rattle.interpolator_render.specs.declared.view.Alignment.TheVariants.{Right}
use Rattle.interpolator_render.specs.declared.view.HexDebug.TheVariants as hex_debugs
use Rattle.interpolator_render.specs.declared.view.Sign.TheVariants as signs
use Rattle.interpolator_render.specs.Characters.{cut, space}
use Rattle.interpolator_render.specs.{declared.view.Spec.Spec, DigitBuffers.Buffered}
use Rattle.interpolator_digits.specs.Characters.{zero_digit}

-- the spec that sets nothing
abbrev pub unset_spec : Spec
unset_spec = record {
  fill = None;
  alignment = Unset;
  sign = signs.Unset;
  alternate = false;
  zero = false;
  width = None;
  precision = None;
  hex_debug = hex_debugs.No;
}

-- how many characters a text of `count` lacks to the width, none if no width is set
abbrev pub missing_to : Spec → ℕ → ℕ
missing_to spec count = unwrap_or spec.width 0 - count

-- the character that pads: a space if the spec names none
abbrev pub fill_of : Spec → ℕ
fill_of spec = unwrap_or spec.fill space

-- how many of the missing characters go before a text: `unset` of them without alignment
abbrev pub fill_before : Alignment → ℕ → ℕ → ℕ
fill_before Left missing unset = 0
fill_before Right missing unset = missing
fill_before Center missing unset = missing / 2
fill_before Unset missing unset = unset

-- a text between copies of a character
abbrev pub between_fill : ℕ → ℕ → ℕ → List ℕ → List ℕ
between_fill fill before after text = replicate before fill ++ (text ++ replicate after fill)

-- a number, whose front is its sign and prefix: padded with zeros after the front under the zero
-- flag, else with the fill, on its left without alignment
unfoldable pub padded_number : Spec → List ℕ → List ℕ → List ℕ
padded_number spec front body =
    let missing = missing_to spec (length front + length body) in
    let before = fill_before spec.alignment missing missing in
    if spec.zero then front ++ (replicate missing zero_digit ++ body)
    else between_fill (fill_of spec) before (missing - before) (front ++ body)

-- any other text: padded with the fill, on its right without alignment
unfoldable pub padded_text : Spec → List ℕ → List ℕ
padded_text spec text =
    let missing = missing_to spec (length text) in
    let before = fill_before spec.alignment missing 0 in
    between_fill (fill_of spec) before (missing - before) text

-- a text as display shows it: cut to the precision, then padded to the width
abbrev pub displayed_text : Spec → List ℕ → List ℕ
displayed_text spec text = padded_text spec (cut spec.precision text)

-- how a number of `count` characters is padded: copies of the fill before, zeros, and copies after
pub record IsNumberLayout (spec : Spec) (count before zeros after : ℕ) : Type 0 where
  pub width_fits : unwrap_or spec.width 0 < 2 ^ 64
  pub zeroed : spec.zero ≡ true → (before ≡ 0) × (zeros ≡ missing_to spec count) × (after ≡ 0)
  pub filled : spec.zero ≡ false →
      (before ≡ fill_before spec.alignment (missing_to spec count) (missing_to spec count))
      × (zeros ≡ 0) × (after ≡ missing_to spec count - before)

-- the character that pads a number
abbrev pub number_fill : Spec → ℕ
number_fill spec = if spec.zero then zero_digit else fill_of spec

-- what is around a number in a row: what pads it, if there is a width
abbrev pub fill_to : Option ℕ → ℕ → ℕ
fill_to None fill = space
fill_to (Some width) fill = fill

abbrev pub row_fill : Spec → ℕ
row_fill spec = fill_to spec.width (number_fill spec)

-- a row that holds a number's body alone, with room for what comes before and after it
pub record IsNumberRow (spec : Spec) (row : Buffered) : Type 0 where
  pub narrow : unwrap_or spec.width 0 ≤ 40
  pub fill : row.fill ≡ row_fill spec
  pub before : row.before + length row.text ≡ 88
  pub front : length row.text ≤ 85
  pub after : row.after ≡ 40
