-- What a fault says: its variant and its fields, without borrows and allocators.
use Rattle.std.specs.Prelude.{ℕ, ◌≤◌, List, Option, None, Some, Result, Ok, Err, string_bytes, ⊤}
use Rattle.std.specs.Prelude.{codes}
use Rattle.std.specs.Str.{chars}
use Rattle.interpolator_render.specs.declared.view.Trait.{Trait}
use Rattle.interpolator_syntax.specs.declared.error.NumberError.{NumberError}
use Rattle.interpolator_syntax.specs.declared.error.ParseError.{ParseError}
use Rattle.interpolator_syntax.specs.declared.error.ParseError.TheVariants.{FormatSpecUnclosed}
use Rattle.interpolator_syntax.specs.declared.error.ParseError.TheVariants.{Expected, InvalidWidth}
use Rattle.interpolator_syntax.specs.declared.error.ParseError.TheVariants.{InvalidPrecision, Fill}
use Rattle.interpolator_syntax.specs.declared.error.ParseError.TheVariants.{Iter, RangeBound}
use Rattle.interpolator_syntax.specs.declared.argument_fault.ArgumentFault.{ArgumentFault}
use Rattle.interpolator_syntax.specs.declared.argument_fault.ArgumentFault.TheVariants.{Text}
use Rattle.interpolator_syntax.specs.declared.argument_fault.ArgumentFault.TheVariants.{Pointer}
use Rattle.interpolator_syntax.specs.declared.error.Error.{Error}
use Rattle.interpolator_syntax.specs.declared.error.Error.TheVariants.{MissingTraitImpl, Fmt, Parse}
use Rattle.interpolator_syntax.specs.declared.error.Error.TheVariants.{MissingValue}
use Rattle.interpolator_syntax.specs.declared.error.Error.TheVariants.{UnsupportedOption, NoMemory}

-- a fault of the format text, with its place and, for `expected`, the bytes of the expected text
pub data ParseFault : Type 0 where
  unclosed : ℕ → ParseFault
  expected : List ℕ → ℕ → ParseFault
  invalid_width : NumberError → ℕ → ParseFault
  invalid_precision : NumberError → ℕ → ParseFault
  fill : ℕ → ParseFault
  iter : ℕ → ParseFault
  range_bound : NumberError → ℕ → ParseFault

-- a fault that a format can have, with its place and the characters of a missing name, or the bytes
-- of an option and of its feature
pub data Fault : Type 0 where
  missing_trait_impl : Trait → ℕ → Fault
  fmt : ℕ → Fault
  parse : ParseFault → Fault
  missing_value : List ℕ → ℕ → Fault
  unsupported_option : List ℕ → List ℕ → ℕ → Fault

-- what an error says: a fault of the format, or that memory ran out
pub data Answer : Type 0 where
  fault : Fault → Answer
  no_memory : Answer

-- what a `ParseError` says
abbrev pub parse_fault_of : ParseError → ParseFault
parse_fault_of (FormatSpecUnclosed place) = unclosed place
parse_fault_of (Expected text place) = expected text.now place
parse_fault_of (InvalidWidth kind place) = invalid_width kind place
parse_fault_of (InvalidPrecision kind place) = invalid_precision kind place
parse_fault_of (Fill place) = fill place
parse_fault_of (Iter place) = iter place
parse_fault_of (RangeBound kind place) = range_bound kind place

-- what an `Error` says
abbrev pub answer_of : Error → Answer
answer_of (MissingTraitImpl wanted place) = fault (missing_trait_impl wanted place)
answer_of (Fmt _ place) = fault (fmt place)
answer_of (Parse error) = fault (parse (parse_fault_of error))
answer_of (MissingValue name place) = fault (missing_value (chars (string_bytes name)) place)
answer_of (UnsupportedOption option feature place) =
    fault (unsupported_option option.now feature.now place)
answer_of NoMemory = no_memory

-- what the error of a result says: nothing for `Ok`
abbrev pub result_answer : {A : Type 0} → Result A Error → Option Answer
result_answer (Ok _) = None
result_answer (Err error) = Some (answer_of error)

-- what an `ArgumentFault` says
abbrev pub argument_fault_of : ArgumentFault → Fault
argument_fault_of (Text error) = parse (parse_fault_of error)
argument_fault_of (Pointer place) = unsupported_option (codes "p") (codes "pointer") place

-- the error is of the one variant that owns memory
abbrev pub IsMissingValue : Error → Type 0
IsMissingValue (MissingValue _ _) = ⊤
IsMissingValue _ = ⊥

-- the place that a fault of the format text carries
abbrev pub parse_place : ParseFault → ℕ
parse_place (unclosed place) = place
parse_place (expected text place) = place
parse_place (invalid_width kind place) = place
parse_place (invalid_precision kind place) = place
parse_place (fill place) = place
parse_place (iter place) = place
parse_place (range_bound kind place) = place

-- the place that a fault carries
abbrev pub fault_place : Fault → ℕ
fault_place (missing_trait_impl wanted place) = place
fault_place (fmt place) = place
fault_place (parse f) = parse_place f
fault_place (missing_value name place) = place
fault_place (unsupported_option option feature place) = place

-- the place that an answer carries; none if memory ran out
abbrev pub answer_place : Answer → Option ℕ
answer_place (fault f) = Some (fault_place f)
answer_place no_memory = None

-- the place of an answer, if it has one, is at most `length`
abbrev pub PlaceWithin : ℕ → Option Answer → Type 0
PlaceWithin length None = ⊤
PlaceWithin length (Some (fault f)) = fault_place f ≤ length
PlaceWithin length (Some no_memory) = ⊤
