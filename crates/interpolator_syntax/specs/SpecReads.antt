-- What the code read, as results of the readers of a spec's parts; and what is left to read.
use Rattle.std.specs.Prelude.{◌≡◌, ℕ, ◌-◌, false, ◌||◌, if◌then◌else◌, min, List, ◌∷◌}
use Rattle.std.specs.Prelude.{Option, Some, None, Result, Ok, Err}
use Rattle.std.specs.Char.{is_ascii_digit}
use Rattle.interpolator_render.specs.declared.view.Trait.{Trait}
use Rattle.interpolator_render.specs.declared.view.Sign.TheVariants as signs
use Rattle.interpolator_render.specs.declared.view.Spec.{Spec}
use Rattle.interpolator_syntax.specs.Readers.{Reader, ◌>>=◌, give}
use Rattle.interpolator_syntax.specs.SpecTexts.{Request, trait_at, kind_at}
use Rattle.interpolator_syntax.specs.{Places.At, Places.at, Classes.zero_digit, Faults.Fault}
use Rattle.interpolator_syntax.specs.Faults.{argument_fault_of}
use Rattle.interpolator_syntax.specs.declared.argument_fault.ArgumentFault.{ArgumentFault}
use Rattle.interpolator_syntax.specs.declared.cursor.Cursor.{Cursor}

-- the text begins with a character whose first byte is b: both are the same, or both lie past ASCII
pub record FirstByte (b : ℕ) (text : List ℕ) : Type 0 where
  pub char : ℕ
  pub more : List ℕ
  pub split : text ≡ char ∷ more
  pub same : min b 128 ≡ min char 128

-- the value of a digit, if the character is one
abbrev pub digit_letter : ℕ → Option (Option ℕ)
digit_letter c = if is_ascii_digit c then Some (Some (c - zero_digit)) else None

-- a part that the code read, and that cannot be broken
abbrev pub part_read : {A : Type 0} → A × Cursor → Result (A × At) Fault
part_read x = Ok (x.0, at x.1)

-- a part that the code read up to `end`; or why it is broken
abbrev pub part_or_broken : {A : Type 0} → Result A ArgumentFault → (end : At)
    → Result (A × At) Fault
part_or_broken (Ok x) end = Ok (x, end)
part_or_broken (Err broken) end = Err (argument_fault_of broken)

-- a part that the code read into x, up to `end`; or why it is broken
abbrev pub part_left : {A : Type 0} → Result (Unit {0}) ArgumentFault → A → (end : At)
    → Result (A × At) Fault
part_left (Ok _) x end = Ok (x, end)
part_left (Err broken) x end = Err (argument_fault_of broken)

-- the rest of a spec after its trait: its kind
abbrev pub kind_left : (start : ℕ) → Spec → Trait → Reader Request
kind_left start spec slot = kind_at start slot >>= λ kind. give (record { spec = spec; kind = kind })

-- the rest of a spec after its options: the trait, and the kind
abbrev pub trait_left : (start : ℕ) → Spec → Reader Request
trait_left start spec = trait_at start (spec.alternate || spec.zero) >>= λ shown.
    kind_left start (record {
      fill = spec.fill;
      alignment = spec.alignment;
      sign = spec.sign;
      alternate = spec.alternate;
      zero = spec.zero;
      width = spec.width;
      precision = spec.precision;
      hex_debug = shown.hex_debug;
    }) shown.slot

-- none of the options is set
pub record HasNoOptions (spec : Spec) : Type 0 where
  pub sign : spec.sign ≡ signs.Unset
  pub alternate : spec.alternate ≡ false
  pub zero : spec.zero ≡ false
  pub width : spec.width ≡ None
  pub precision : spec.precision ≡ None

-- the rest of a spec, if its options were read up to `end`
abbrev pub options_left : (start : ℕ) → Result (Unit {0}) ArgumentFault → Spec → (end : At)
    → Result (Request × At) Fault
options_left start (Ok _) spec end = trait_left start spec end
options_left start (Err broken) spec end = Err (argument_fault_of broken)

-- the rest of a spec, if all was read up to `end`, the letter of a list included
abbrev pub spec_left : (start : ℕ) → Result (Unit {0}) ArgumentFault → Spec → Trait → (end : At)
    → Result (Request × At) Fault
spec_left start (Ok _) spec slot end = kind_left start spec slot end
spec_left start (Err broken) spec slot end = Err (argument_fault_of broken)
