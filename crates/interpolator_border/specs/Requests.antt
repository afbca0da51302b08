-- How an argument wants its value written, in numbers.
use Rattle.std.specs.Prelude.{ℕ, Bool, true, false, ◌==◌, ◌&&◌, Option, None, Some, unwrap_or}
use Rattle.interpolator_render.specs.declared.view.Trait.TheVariants.{Binary, Debug, Display}
use Rattle.interpolator_render.specs.declared.view.Trait.TheVariants.{LowerExp, LowerHex, Octal}
use Rattle.interpolator_render.specs.declared.view.Trait.TheVariants.{UpperExp, UpperHex, Iter}
use Rattle.interpolator_render.specs.{declared.view.Trait.Trait, declared.view.Alignment.Alignment}
use Rattle.interpolator_render.specs.declared.view.Alignment.TheVariants as alignments
use Rattle.interpolator_render.specs.declared.view.Sign.{Sign}
use Rattle.interpolator_render.specs.declared.view.Sign.TheVariants as signs
use Rattle.interpolator_render.specs.declared.view.HexDebug.{HexDebug}
use Rattle.interpolator_render.specs.declared.view.HexDebug.TheVariants as hex_debugs
use Rattle.interpolator_render.specs.declared.view.Spec.{Spec}
use Rattle.interpolator_border.specs.declared.request.Request.{Request}

-- the number of a trait
abbrev pub slot_code : Trait → ℕ
slot_code Display = 0
slot_code Debug = 1
slot_code Binary = 2
slot_code Octal = 3
slot_code LowerHex = 4
slot_code UpperHex = 5
slot_code LowerExp = 6
slot_code UpperExp = 7
slot_code Iter = 8

-- the number of a fill: its code, or the greatest number of 32 bits
abbrev pub fill_code : Option ℕ → ℕ
fill_code (Some c) = c
fill_code None = 0xFFFF_FFFF

-- the number of an alignment
abbrev pub alignment_code : Alignment → ℕ
alignment_code alignments.Unset = 0
alignment_code alignments.Left = 1
alignment_code alignments.Center = 2
alignment_code alignments.Right = 3

-- the number of a sign flag
abbrev pub sign_code : Sign → ℕ
sign_code signs.Unset = 0
sign_code signs.Plus = 1
sign_code signs.Minus = 2

-- the number of a debug flag
abbrev pub hex_debug_code : HexDebug → ℕ
hex_debug_code hex_debugs.No = 0
hex_debug_code hex_debugs.Lower = 1
hex_debug_code hex_debugs.Upper = 2

-- 1 if a flag is set
abbrev pub flag_code : Bool → ℕ
flag_code true = 1
flag_code false = 0

-- which of a width and a precision are given
abbrev pub given_code : Option ℕ → Option ℕ → ℕ
given_code None None = 0
given_code (Some _) None = 1
given_code None (Some _) = 2
given_code (Some _) (Some _) = 3

-- a trait and a spec, in numbers
abbrev pub request_of : Trait → Spec → Request
request_of t spec = record {
  slot = slot_code t;
  fill = fill_code spec.fill;
  alignment = alignment_code spec.alignment;
  sign = sign_code spec.sign;
  alternate = flag_code spec.alternate;
  zero = flag_code spec.zero;
  hex_debug = hex_debug_code spec.hex_debug;
  given = given_code spec.width spec.precision;
  width = unwrap_or spec.width 0;
  precision = unwrap_or spec.precision 0;
}

-- whether two requests are the same
abbrev pub is_request : Request → Request → Bool
is_request a b =
    a.slot == b.slot && (a.fill == b.fill && (a.alignment == b.alignment && (a.sign == b.sign
    && (a.alternate == b.alternate && (a.zero == b.zero && (a.hex_debug == b.hex_debug
    && (a.given == b.given && (a.width == b.width && a.precision == b.precision))))))))
