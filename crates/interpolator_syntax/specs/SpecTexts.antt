-- The spec after the colon of an argument: how it is read.
use Rattle.std.specs.Prelude.{ℕ, ◌+◌, Bool, false, ◌==◌, ◌||◌, if◌then◌else◌, List, [], ◌∷◌}
use Rattle.std.specs.Prelude.{Option, None, Some, Result, Ok, Err, codes}
use Rattle.std.specs.Char.{is_ascii_digit, len_utf8}
use Rattle.interpolator_render.specs.declared.view.Trait.{Trait}
use Rattle.interpolator_render.specs.declared.view.Trait.TheVariants as traits
use Rattle.interpolator_render.specs.{declared.view.Spec.Spec, declared.view.Alignment.Alignment}
use Rattle.interpolator_render.specs.declared.view.Alignment.TheVariants as alignments
use Rattle.interpolator_render.specs.declared.view.Sign.{Sign}
use Rattle.interpolator_render.specs.declared.view.Sign.TheVariants as signs
use Rattle.interpolator_render.specs.declared.view.HexDebug.{HexDebug}
use Rattle.interpolator_render.specs.declared.view.HexDebug.TheVariants as hex_debugs
use Rattle.interpolator_syntax.specs.Classes.{in_class, is_alignment, left_angle, caret}
use Rattle.interpolator_syntax.specs.Classes.{right_angle, plus, minus, hash, zero_digit, point}
use Rattle.interpolator_syntax.specs.Classes.{question_mark, open_brace, close_brace, upper_x}
use Rattle.interpolator_syntax.specs.Classes.{lower_x, upper_e, lower_e, lower_b, lower_i, lower_o}
use Rattle.interpolator_syntax.specs.Classes.{lower_p}
use Rattle.interpolator_syntax.specs.Readers.{Reader, ◌>>=◌, give, letter, flag, run}
use Rattle.interpolator_syntax.specs.Faults.{Fault, parse, unclosed, expected, fill as no_fill}
use Rattle.interpolator_syntax.specs.Faults.{invalid_width, invalid_precision, unsupported_option}
use Rattle.interpolator_syntax.specs.Faults.{ParseFault}
use Rattle.interpolator_syntax.specs.{Places.At, Places.first, Places.strip, Lists.ListRequest}
use Rattle.interpolator_syntax.specs.{Lists.list_at}
use Rattle.interpolator_syntax.specs.{Numbers.natural, declared.error.NumberError.NumberError}
use Rattle.interpolator_syntax.specs.declared.class.Class.TheVariants.{Number}

-- the kind of an argument: a value under a trait, or a list
pub data Kind : Type 0 where
  of_value : Trait → Kind
  of_list : ListRequest → Kind

-- a spec, and a kind
pub record Request : Type 0 where
  pub spec : Spec
  pub kind : Kind

-- the spec in which nothing is set
abbrev pub plain_spec : Spec
plain_spec = record {
  fill = None;
  alignment = alignments.Unset;
  sign = signs.Unset;
  alternate = false;
  zero = false;
  width = None;
  precision = None;
  hex_debug = hex_debugs.No;
}

-- plain display
abbrev pub plain_display : Request
plain_display = record { spec = plain_spec; kind = of_value traits.Display }

-- `<`, `^`, `>`
abbrev pub alignment_letter : ℕ → Option Alignment
alignment_letter c =
    if c == left_angle then Some alignments.Left
    else (if c == caret then Some alignments.Center
    else (if c == right_angle then Some alignments.Right else None))

-- `+`, `-`
abbrev pub sign_letter : ℕ → Option Sign
sign_letter c =
    if c == plus then Some signs.Plus else (if c == minus then Some signs.Minus else None)

-- the number that a run at p spells, or the fault that it spells none
abbrev pub number_or : (NumberError → ℕ → ParseFault) → (p : ℕ) → Result ℕ NumberError
    → Reader (Option ℕ)
number_or wrong p (Ok n) = give (Some n)
number_or wrong p (Err kind) = λ a. Err (parse (wrong kind p))

-- the number that a run of digits and `-` spells
abbrev pub number_at : (NumberError → ℕ → ParseFault) → (start : ℕ) → Reader (Option ℕ)
number_at wrong start =
    λ a. (run (in_class Number) start >>= λ cs. number_or wrong a.place (natural cs)) a

-- a number, if a digit comes first
abbrev pub if_digit : Reader (Option ℕ) → (a : At) → Option (ℕ × At) → Result (Option ℕ × At) Fault
if_digit read a None = Ok (None, a)
if_digit read a (Some w) = if is_ascii_digit w.0 then read a else Ok (None, a)

-- a width, if there is a digit here
abbrev pub width_at : (start : ℕ) → Reader (Option ℕ)
width_at start = λ a. if_digit (number_at invalid_width start) a (first a)

-- a number after a point, if there is one
abbrev pub if_point : Reader (Option ℕ) → (a : At) → Option At → Result (Option ℕ × At) Fault
if_point read a None = Ok (None, a)
if_point read a (Some rest) = read rest

-- a precision, if there is a point here
abbrev pub precision_at : (start : ℕ) → Reader (Option ℕ)
precision_at start = λ a. if_point (number_at invalid_precision start) a (strip point a)

-- a trait, and how debug writes numbers
pub record Wanted : Type 0 where
  pub slot : Trait
  pub hex_debug : HexDebug

-- a trait alone
abbrev pub trait_alone : Trait → Wanted
trait_alone t = record { slot = t; hex_debug = hex_debugs.No }

-- after `x` or `X`: debug with hexadecimal numbers if a `?` follows, else hexadecimal
abbrev pub hexadecimal : Trait → HexDebug → (rest : At) → Option At → Result (Wanted × At) Fault
hexadecimal t hex rest None = Ok (trait_alone t, rest)
hexadecimal t hex rest (Some end) = Ok (record { slot = traits.Debug; hex_debug = hex }, end)

-- `?`, `o`, `b`, `e`, `E`, `i`
abbrev pub trait_letter : ℕ → Option Trait
trait_letter c =
    if c == question_mark then Some traits.Debug
    else (if c == lower_o then Some traits.Octal
    else (if c == lower_b then Some traits.Binary
    else (if c == lower_e then Some traits.LowerExp
    else (if c == upper_e then Some traits.UpperExp
    else (if c == lower_i then Some traits.Iter else None)))))

-- why no trait begins with c at p
abbrev pub no_trait : (c p : ℕ) → Fault
no_trait c p =
    if c == lower_p then unsupported_option (codes "p") (codes "pointer") p
    else parse (expected (codes "}") p)

-- the trait of a letter c at p, or the fault that it is none
abbrev pub letter_trait : (c p : ℕ) → (rest : At) → Option Trait → Result (Wanted × At) Fault
letter_trait c p rest (Some t) = Ok (trait_alone t, rest)
letter_trait c p rest None = Err (no_trait c p)

-- the trait that the first character begins: `}` stands for display, and is not read
abbrev pub trait_from : (a : At) → (c : ℕ) → (rest : At) → Result (Wanted × At) Fault
trait_from a c rest =
    if c == close_brace then Ok (trait_alone traits.Display, a)
    else (if c == lower_x
    then hexadecimal traits.LowerHex hex_debugs.Lower rest (strip question_mark rest)
    else (if c == upper_x
    then hexadecimal traits.UpperHex hex_debugs.Upper rest (strip question_mark rest)
    else letter_trait c a.place rest (trait_letter c)))

-- the trait by the first character: at the end of the text display, or a fault after `#` or `0`
abbrev pub trait_first : (start : ℕ) → (flagged : Bool) → (a : At) → Option (ℕ × At)
    → Result (Wanted × At) Fault
trait_first start flagged a None =
    if flagged then Err (parse (unclosed start)) else Ok (trait_alone traits.Display, a)
trait_first start flagged a (Some w) = trait_from a w.0 w.1

-- the trait here; `flagged` says whether `#` or `0` was read
abbrev pub trait_at : (start : ℕ) → (flagged : Bool) → Reader Wanted
trait_at start flagged = λ a. trait_first start flagged a (first a)

-- the kind of a list: its form, after its letter
abbrev pub list_kind_at : (start : ℕ) → Reader Kind
list_kind_at start = list_at start >>= λ l. give (of_list l)

-- the kind under a trait that was read
abbrev pub kind_at : (start : ℕ) → Trait → Reader Kind
kind_at start traits.Iter = list_kind_at start
kind_at start t = give (of_value t)

-- the request of these parts
abbrev pub request_with : (fill : Option ℕ) → Alignment → Sign → (alternate zero : Bool)
    → (width precision : Option ℕ) → Wanted → Kind → Request
request_with fill alignment sign alternate zero width precision shown kind = record {
  spec = record {
    fill = fill;
    alignment = alignment;
    sign = sign;
    alternate = alternate;
    zero = zero;
    width = width;
    precision = precision;
    hex_debug = shown.hex_debug;
  };
  kind = kind;
}

-- sign, `#`, `0`, width, precision and trait, each if it is there; and, after the letter of a list,
-- the form of that list
unfoldable pub spec_from_sign : (start : ℕ) → (fill : Option ℕ) → Alignment → Reader Request
spec_from_sign start fill alignment =
    do
      sign ← letter sign_letter signs.Unset
      alternate ← flag hash
      zero ← flag zero_digit
      width ← width_at start
      precision ← precision_at start
      shown ← trait_at start (alternate || zero)
      kind ← kind_at start shown.slot
      give (request_with fill alignment sign alternate zero width precision shown kind)

-- an alignment, if there is one, and then from the sign on
abbrev pub spec_from_alignment : (start : ℕ) → (fill : Option ℕ) → Reader Request
spec_from_alignment start fill =
    letter alignment_letter alignments.Unset >>= spec_from_sign start fill

-- the character c at a is the fill, and `rest` follows it; a `{` there is a fault
abbrev pub fill_or_fault : (a : At) → (c : ℕ) → (rest : At) → Result (Option ℕ × At) Fault
fill_or_fault a c rest =
    if c == open_brace then Err (parse (no_fill a.place)) else Ok (Some c, rest)

-- the first character is a fill if an alignment comes second
abbrev pub fill_of : (a : At) → List ℕ → Result (Option ℕ × At) Fault
fill_of a [] = Ok (None, a)
fill_of a (c ∷ []) = Ok (None, a)
fill_of a (c ∷ d ∷ ds) =
    if is_alignment d
    then fill_or_fault a c (record { place = a.place + len_utf8 c; text = d ∷ ds })
    else Ok (None, a)

-- a fill, if there is one
abbrev pub fill_at : Reader (Option ℕ)
fill_at = λ a. fill_of a a.text

-- a fill, if there is one, and then from the alignment on
abbrev pub spec_parts : (start : ℕ) → Reader Request
spec_parts start = fill_at >>= spec_from_alignment start

-- the text after the colon of the argument that begins at `start`: a text of at most one character
-- is not read, nor is one that begins with `}`; of any other the parts are read
abbrev pub spec_of : (start : ℕ) → (a : At) → List ℕ → Result (Request × At) Fault
spec_of start a [] = Ok (plain_display, a)
spec_of start a (c ∷ []) = Ok (plain_display, a)
spec_of start a (c ∷ d ∷ ds) =
    if c == close_brace then Ok (plain_display, a) else spec_parts start a

-- the spec after a colon
unfoldable pub spec_after : (start : ℕ) → Reader Request
spec_after start = λ a. spec_of start a a.text
