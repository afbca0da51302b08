use Rattle.std.proofs.{Common.ℕ, Common.ℤ, Common.arith, lemmas.Grind.common_steps}
use Rattle.interpolator.specs.DecimalTexts.{SpellsDecimal}
use Rattle.interpolator.proofs.DecimalTextLemmas.{only_spelled, read_answer, read_fault, spelled}
use Rattle.interpolator.proofs.DecimalTextLemmas.{spells_none}
use Rattle.interpolator.proofs.decimal.Decimal.parse.Goals as goal

-- nothing is spelled by what has no parts
none : (c : goal.In-None) (units : ℤ) (scale : ℕ) → ¬ (SpellsDecimal c.args.text.now units scale)
none c = spells_none c.args.text.now _ _ c.split_sign-negative.ensures.only c.in-None.ensures

pub returns-in-None-clause-spelled : goal.returns-in-None-clause-spelled
returns-in-None-clause-spelled c = λ decimal. (λ spells. absurd (none c _ _ spells.0), λ read. cc)

pub returns-in-None-clause-err : goal.returns-in-None-clause-err
returns-in-None-clause-err c = grind (arith, common_steps, none c)

pub returns-in-Some-clause-spelled : goal.returns-in-Some-clause-spelled
returns-in-Some-clause-spelled c =
    let split = c.split_sign-negative.ensures in
    read_answer c.args.text.now _ _ c.assembled.result c.overflow.result c.ok_or.result
    (spelled _ _ _ _ _ split.sign split.only c.in-Some.ensures)
    (only_spelled _ _ _ _ _ split.sign split.only c.in-Some.ensures) c.assembled.ensures
    c.ok_or.ensures.value

pub returns-in-Some-clause-err : goal.returns-in-Some-clause-err
returns-in-Some-clause-err c =
    let split = c.split_sign-negative.ensures in
    read_fault c.args.text.now c.split_sign-negative.result.0 _ _ _ _ _ c.assembled.result
    c.overflow.result c.ok_or.result split.sign c.in-Some.ensures
    (spelled _ _ _ _ _ split.sign split.only c.in-Some.ensures) c.assembled.ensures
    c.overflow.ensures c.ok_or.ensures.value
