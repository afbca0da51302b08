-- The texts of the faults, as bytes of UTF-8.
use Rattle.std.specs.Prelude.{ℕ, List, ◌++◌, codes, encode_utf8_all}
use Rattle.std.specs.Fmt.{decimal}
use Rattle.interpolator_render.specs.declared.view.Trait.{Trait}
use Rattle.interpolator_render.specs.declared.view.Trait.TheVariants.{Binary, Debug, Display}
use Rattle.interpolator_render.specs.declared.view.Trait.TheVariants.{LowerExp, LowerHex, Octal}
use Rattle.interpolator_render.specs.declared.view.Trait.TheVariants.{UpperExp, UpperHex, Iter}
use Rattle.interpolator_syntax.specs.declared.error.NumberError.TheVariants.{Empty, InvalidDigit}
use Rattle.interpolator_syntax.specs.declared.error.NumberError.TheVariants.{PosOverflow}
use Rattle.interpolator_syntax.specs.declared.error.NumberError.TheVariants.{NegOverflow}
use Rattle.interpolator_syntax.specs.Faults.{ParseFault, Fault, Answer, unclosed, expected}
use Rattle.interpolator_syntax.specs.Faults.{invalid_width, invalid_precision, fill, iter}
use Rattle.interpolator_syntax.specs.Faults.{range_bound, missing_trait_impl, fmt, parse}
use Rattle.interpolator_syntax.specs.Faults.{missing_value, unsupported_option, fault, no_memory}
use Rattle.interpolator_syntax.specs.Faults.{parse_fault_of, answer_of}
use Rattle.interpolator_syntax.specs.declared.error.NumberError.{NumberError}
use Rattle.interpolator_syntax.specs.declared.{error.ParseError.ParseError, error.Error.Error}

-- the name of a trait
abbrev pub trait_name : Trait → List ℕ
trait_name Binary = codes "Binary"
trait_name Debug = codes "Debug"
trait_name Display = codes "Display"
trait_name LowerExp = codes "LowerExp"
trait_name LowerHex = codes "LowerHex"
trait_name Octal = codes "Octal"
trait_name UpperExp = codes "UpperExp"
trait_name UpperHex = codes "UpperHex"
trait_name Iter = codes "Iter"

-- why a text is not a number
abbrev pub number_text : NumberError → List ℕ
number_text Empty = codes "cannot parse integer from empty string"
number_text InvalidDigit = codes "invalid digit found in string"
number_text PosOverflow = codes "number too large to fit in target type"
number_text NegOverflow = codes "number too small to fit in target type"

-- why a format text is rejected
abbrev pub parse_fault_text : ParseFault → List ℕ
parse_fault_text (unclosed place) =
    codes "Format spec at " ++ (decimal place ++ codes " is nether closed with a `}`")
parse_fault_text (expected text place) =
    codes "Expected `" ++ (text ++ (codes "` at " ++ decimal place))
parse_fault_text (invalid_width kind place) =
    codes "Unable to parse width at "
    ++ (decimal place ++ (codes " as usize: " ++ number_text kind))
parse_fault_text (invalid_precision kind place) =
    codes "Unable to parse precision at "
    ++ (decimal place ++ (codes " as usize: " ++ number_text kind))
parse_fault_text (fill place) =
    codes "Fill is not supported due to https://github.com/rust-lang/rfcs/pull/3394 at "
    ++ decimal place
parse_fault_text (iter place) =
    codes "Width, precision, `-`, `+` and `#` are not supported for `i` at " ++ decimal place
parse_fault_text (range_bound kind place) =
    codes "Unable to parse range bound at "
    ++ (decimal place ++ (codes " as isize: " ++ number_text kind))

-- which option needs which feature
abbrev pub unsupported_text : List ℕ → List ℕ → ℕ → List ℕ
unsupported_text option feature place =
    codes "option `"
    ++ (option ++ (codes "` is not supported without feature `"
    ++ (feature ++ (codes "` at " ++ decimal place))))

-- why a format was not written
abbrev pub fault_text : Fault → List ℕ
fault_text (missing_trait_impl wanted place) =
    codes "trait `"
    ++ (trait_name wanted ++ (codes "` not implemented, used by format argument at "
    ++ decimal place))
fault_text (fmt place) =
    codes "error while formatting at "
    ++ (decimal place ++ codes ": an error occurred when formatting an argument")
fault_text (parse refused) = codes "error while parsing input: " ++ parse_fault_text refused
fault_text (missing_value name place) =
    codes "specified value not in context `"
    ++ (encode_utf8_all name ++ (codes "` at " ++ decimal place))
fault_text (unsupported_option option feature place) = unsupported_text option feature place

-- a fault's text, or that memory ran out
abbrev pub answer_text : Answer → List ℕ
answer_text (fault why) = fault_text why
answer_text no_memory = codes "out of memory"

-- what `{}` writes for a `ParseError`
abbrev pub parse_error_text : ParseError → List ℕ
parse_error_text error = parse_fault_text (parse_fault_of error)

-- what `{}` writes for an `Error`
abbrev pub error_text : Error → List ℕ
error_text error = answer_text (answer_of error)
