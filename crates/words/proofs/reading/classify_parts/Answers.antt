use Rattle.std.proofs.{Common.None, Common.Some, Common.refl, lemmas.Int.to_z-of_z}
use Rattle.std.specs.Int.{w128}
use Rattle.interpolator.specs.DecimalTexts.{Spells as IsDecimal}
use Rattle.words.specs.Words.{IsFloat, Spells, decimal, float, list, number, text}
use Rattle.words.proofs.PartLemmas.{alone, spelled_alone}
use Rattle.words.proofs.reading.classify_parts.Goals as goal

pub returns-in-Text : goal.returns-in-Text
returns-in-Text c = rw (← c.declaration_of-kind.ensures, c.in-Text.is)
    (alone (text _ c.args.right.now))

pub returns-in-None : goal.returns-in-None
returns-in-None c = rw (← c.declaration_of-kind.ensures, c.in-Number.is)
    (spelled_alone (Spells c.args.right.now) (λ value. number _ value) None
    c.in-None.ensures)

pub returns-in-Some : goal.returns-in-Some
returns-in-Some c =
    let found = c.in-Some.value in
    let spelled = c.in-Some.ensures in
    rw (
      ← c.declaration_of-kind.ensures,
      c.in-Number.is,
      to_z-of_z w128 found ((spelled found).1 refl).fits,
    )
    (spelled_alone (Spells c.args.right.now) (λ value. number _ value) (Some found) spelled)

pub returns-in-None-decimal_of : goal.returns-in-None-decimal_of
returns-in-None-decimal_of c = rw (← c.declaration_of-kind.ensures, c.in-Decimal.is)
    (spelled_alone (IsDecimal c.args.right.now) (λ value. decimal _ value) None
    c.in-None-decimal_of.ensures)

pub returns-in-Some-decimal_of : goal.returns-in-Some-decimal_of
returns-in-Some-decimal_of c = rw (← c.declaration_of-kind.ensures, c.in-Decimal.is)
    (spelled_alone (IsDecimal c.args.right.now) (λ value. decimal _ value)
    (Some c.in-Some-decimal_of.value) c.in-Some-decimal_of.ensures)

pub returns-in-None-float_of : goal.returns-in-None-float_of
returns-in-None-float_of c = rw (← c.declaration_of-kind.ensures, c.in-Float.is)
    (spelled_alone (IsFloat c.args.right.now) (λ value. float _ value) None
    c.in-None-float_of.ensures)

pub returns-in-Some-float_of : goal.returns-in-Some-float_of
returns-in-Some-float_of c = rw (← c.declaration_of-kind.ensures, c.in-Float.is)
    (spelled_alone (IsFloat c.args.right.now) (λ value. float _ value)
    (Some c.in-Some-float_of.value) c.in-Some-float_of.ensures)

pub returns-in-List : goal.returns-in-List
returns-in-List c = rw (← c.declaration_of-kind.ensures, c.in-List.is)
    (alone (list _ c.args.right.now))
