-- How a range of list indices is read.
use Rattle.std.specs.Prelude.{ℕ, ℤ, Bool, true, if◌then◌else◌, Option, None, Some, Result, Ok, Err}
use Rattle.interpolator_syntax.specs.Readers.{Reader, ◌>>=◌, give, flag, run}
use Rattle.interpolator_syntax.specs.{Places.At, Places.first, Places.strip, Classes.in_class}
use Rattle.interpolator_syntax.specs.{Classes.point}
use Rattle.interpolator_syntax.specs.{Classes.equals, Numbers.integer, Faults.Fault, Faults.parse}
use Rattle.interpolator_syntax.specs.{Faults.range_bound, declared.error.NumberError.NumberError}
use Rattle.interpolator_syntax.specs.declared.class.Class.TheVariants.{Number}
use Rattle.interpolator_syntax.specs.declared.range.Range.{Range}

-- the bound that a run at p spells, or the fault that it spells none
abbrev pub bound_or : (p : ℕ) → Result ℤ NumberError → Reader (Option ℤ)
bound_or p (Ok n) = give (Some n)
bound_or p (Err kind) = λ a. Err (parse (range_bound kind p))

-- the bound that a run of digits and `-` spells
abbrev pub bound_at : (start : ℕ) → Reader (Option ℤ)
bound_at start = λ a. (run (in_class Number) start >>= λ cs. bound_or a.place (integer cs)) a

-- a bound, if a digit or a `-` comes first
abbrev pub if_number : Reader (Option ℤ) → (a : At) → Option (ℕ × At) → Result (Option ℤ × At) Fault
if_number read a None = Ok (None, a)
if_number read a (Some w) = if in_class Number w.0 then read a else Ok (None, a)

-- a bound, if there is one here
abbrev pub bound_if : (start : ℕ) → Reader (Option ℤ)
bound_if start = λ a. if_number (bound_at start) a (first a)

-- after a point at a: a second one, and whether a `=` follows that
abbrev pub second_point : (a : At) → Option At → Result (Option Bool × At) Fault
second_point a None = Ok (None, a)
second_point a (Some rest) = (flag equals >>= λ inclusive. give (Some inclusive)) rest

-- after a point, if one is at a
abbrev pub first_point : (a : At) → Option At → Result (Option Bool × At) Fault
first_point a None = Ok (None, a)
first_point a (Some rest) = second_point a (strip point rest)

-- `..` or `..=`, if there is one here: whether it has the `=`
abbrev pub points : Reader (Option Bool)
points = λ a. first_point a (strip point a)

-- an upper bound, which may follow `..` or `..=`
abbrev pub upper_at : (start : ℕ) → Option Bool → Reader (Option ℤ)
upper_at start None = give None
upper_at start (Some inclusive) = bound_if start

-- the range of what was read: a bound alone is both bounds
abbrev pub range_of : Option ℤ → Option Bool → Option ℤ → Option Range
range_of lower (Some inclusive) upper =
    Some (record { lower = lower; inclusive = inclusive; upper = upper })
range_of (Some n) None upper =
    Some (record { lower = Some n; inclusive = true; upper = Some n })
range_of None None upper = None

-- a range, if there is one here, of the argument that begins at `start`
unfoldable pub range_at : (start : ℕ) → Reader (Option Range)
range_at start =
    do
      lower ← bound_if start
      inclusive ← points
      upper ← upper_at start inclusive
      give (range_of lower inclusive upper)
