-- What the writer below a writer has got of a text that is passed on to it, up to a refusal.
use Rattle.std.specs.Prelude.{◌≡◌, ℕ, ◌+◌, ◌<◌, ◌-◌, Bool, true, false, List, ◌∷◌, ◌++◌, length}
use Rattle.std.specs.Prelude.{take, drop, Option, None, Some, Result, Ok, Err}
use Rattle.std.specs.Coded.{Unit-prop}
use native.Mathlib.Bridge.{le_prop}
use Rattle.interpolator_render.specs.declared.view.RenderFault.{RenderFault}
use Rattle.interpolator_render.specs.declared.view.RenderFault.TheVariants.{Refused}
use Rattle.interpolator_render.specs.Writers.{Written, Origin, Layer, GoesOver, byte_count}
use Rattle.interpolator_render.specs.Writers.{first_size}

-- a writer that has not refused has got all of this text, after what it had at first
abbrev pub HasWhole : (start text : List ℕ) → Written → Type 0
HasWhole start text below = below.refused ≡ false → below.text ≡ start ++ text

-- how many characters of the text passed on it has got
abbrev pub got_of : (start : List ℕ) → Written → ℕ
got_of start below = length below.text - length start

-- one that has refused has got a beginning of it
abbrev pub HasFront : (start text : List ℕ) → Written → Type 0
HasFront start text below =
    below.refused ≡ true → below.text ≡ start ++ take (got_of start below) text

-- and not all of it
abbrev pub LacksEnd : (start text : List ℕ) → Written → Type 0
LacksEnd start text below = below.refused ≡ true → got_of start below < length text

-- the next character goes over its bound, if it has one
abbrev pub NextGoesOver : (start text : List ℕ) → Written → Type 0
NextGoesOver start text below =
    below.refused ≡ true
    → GoesOver below.origin.bound false
    (byte_count below.text + first_size (drop (got_of start below) text))

-- this has one proof at most
pub GoesOver-prop : (bound : Option ℕ) (refused : Bool) (bytes : ℕ)
    → IsProp (GoesOver bound refused bytes)
GoesOver-prop None refused bytes = Unit-prop
GoesOver-prop (Some most) true bytes = Unit-prop
GoesOver-prop (Some most) false bytes = le_prop

pub ruleset got = GoesOver-prop

-- the layers of a writer over a writer: that one, by this reference and in this way, and those
-- below it
abbrev pub layers : (name way : ℕ) → Origin → List Layer
layers name way below =
    record { name = name; way = way; bound = below.bound; below = below.below } ∷ below.through

-- what a caller is told of a text that was passed on, by what it was told itself and whether the
-- writer below has refused
abbrev pub or_refused : Result (Unit {0}) RenderFault → Bool → Result (Unit {0}) RenderFault
or_refused (Ok x) true = Err Refused
or_refused (Ok x) false = Ok x
or_refused (Err fault) refused = Err fault
