-- Equality of specs, field by field.
use Rattle.std.proofs.Common.{◌≡◌, Bool, true, ◌&&◌, eqb, rules, arith}
use Rattle.std.proofs.{lemmas.Bool.eqb-true, lemmas.Bool.Decides.nat_tests}
use Rattle.std.specs.Option.{option_eq}
use mathlib.Core.Bool.{beq}
use denote.Enum.Bare.{sameb, same_true}
use Rattle.interpolator_render.specs.declared.view.Spec.{Spec}
use Rattle.interpolator_render.specs.contracts.view.Alignment.{the_type as alignments}
use Rattle.interpolator_render.specs.contracts.view.HexDebug.{the_type as hex_debugs}
use Rattle.interpolator_render.specs.contracts.view.Sign.{the_type as signs}

-- what a derived `==` of two specs computes
abbrev pub same_fields : Spec → Spec → Bool
same_fields left right =
    option_eq eqb left.fill right.fill && (sameb alignments left.alignment right.alignment &&
    (sameb signs left.sign right.sign &&
    (beq left.alternate right.alternate && (beq left.zero right.zero
    && (option_eq eqb left.width right.width &&
    (option_eq eqb left.precision right.precision && sameb hex_debugs left.hex_debug
    right.hex_debug))))))

both_true : (a b : Bool) → (a && b) ≡ true → (a ≡ true) × (b ≡ true)
both_true a b e = grind arith

pub same_from_fields : (left right : Spec) → same_fields left right ≡ true → left ≡ right
same_from_fields left right e =
    let a = same_true alignments (search rules) in
    let s = same_true signs (search rules) in
    let h = same_true hex_debugs (search rules) in
    grind (arith, both_true, eqb-true, a, s, h)

pub fields_from_same : (spec : Spec) → same_fields spec spec ≡ true
fields_from_same spec = grind (arith, nat_tests)
