-- Rows in which the text between two items and a number lie together.
use Rattle.std.specs.Prelude.{◌≡◌, ℕ, ◌≤◌, nat_lt, Bool, if◌then◌else◌, false, List, ◌++◌, length}
use Rattle.std.specs.Prelude.{take, Option, None, Some, string_bytes}
use Rattle.std.specs.Str.{IsAscii}
use Rattle.interpolator_render.specs.declared.view.Trait.{Trait}
use Rattle.interpolator_render.specs.declared.view.Trait.TheVariants.{Display}
use Rattle.interpolator_render.specs.{declared.view.Spec.Spec, FewDigits.is_few, Views.Shown}
use Rattle.interpolator_render.specs.Texts.{has_text, view_text}
use Rattle.interpolator_syntax.specs.SpecTexts.{plain_spec}
use Rattle.interpolator_eval.specs.Slots.{Slots, slot_at, values_of}
use Rattle.interpolator_prepared.specs.declared.step.JoinedText.{JoinedText}

-- a row of 16 bytes begins with the text, if this has at most eight
pub record HasText (x : JoinedText) (row : List ℕ) : Type 0 where
  pub size : length row ≡ 16
  pub begins : length (string_bytes x.text) ≤ 8
      → take (length (string_bytes x.text)) row ≡ string_bytes x.text

-- whether a value is displayed as a whole number from 0 to 9,999
abbrev pub has_few : {X : Type 0} → (X → Trait → Spec → Shown) → Option X → Bool
has_few shows None = false
has_few shows (Some value) = is_few (shows value Display plain_spec)

-- whether an item is put behind the text: this has at most eight bytes, and the item few digits
abbrev pub is_put : {X : Type 0} → (X → Trait → Spec → Shown) → JoinedText → Slots X → Bool
is_put shows x item =
    if nat_lt 8 (length (string_bytes x.text)) then false
    else has_few shows (slot_at Display (values_of item))

-- the first `count` bytes of a row are the text, and behind it digits: what an item is displayed as
pub record HasDigits {X : Type 0} (shows : X → Trait → Spec → Shown) (x : JoinedText)
    (item : Slots X) (count : ℕ) (bytes : List ℕ) : Type 0 where
  pub value : X
  pub digits : List ℕ
  pub found : slot_at Display (values_of item) ≡ Some value
  pub text : view_text (shows value Display plain_spec) Display plain_spec ≡ has_text digits
  pub ascii : IsAscii digits
  pub fits : count ≤ 16
  pub row : take count bytes ≡ string_bytes x.text ++ digits
