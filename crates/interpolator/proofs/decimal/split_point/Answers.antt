use Rattle.std.proofs.Common.{refl}
use Rattle.interpolator.proofs.DecimalTextLemmas.{no_point_answer, point_answer}
use Rattle.interpolator.proofs.decimal.split_point.Goals as goal

pub returns-in-None : goal.returns-in-None
returns-in-None c =
    no_point_answer c.args.text _ c.is_digits.result c.then_some.result c.in-None.ensures.cases
    c.is_digits.ensures c.then_some.ensures refl

pub returns-in-Some : goal.returns-in-Some
returns-in-Some c =
    point_answer c.args.text.now c.in-Some.before c.in-Some.after c.are_digits.result
    c.then_some-in-Some.result c.in-Some.ensures.cases c.are_digits.ensures
    c.then_some-in-Some.ensures
