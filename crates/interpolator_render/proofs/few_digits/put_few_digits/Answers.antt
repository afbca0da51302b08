use Rattle.std.proofs.Common.{◌≡◌, arith, false, true}
use Rattle.std.proofs.lemmas.Bool.Decides.{nat_tests}
use Rattle.interpolator_digits.proofs.DigitLemmas.{digits_ascii}
use Rattle.interpolator_render.proofs.FewDigitLemmas.{few_put}
use Rattle.interpolator_render.proofs.RenderingLemmas.{plain_signed, plain_unsigned}
use Rattle.interpolator_render.proofs.few_digits.put_few_digits.Goals as goal

pub returns-then-number-from-clause-answer : goal.returns-then-number-from-clause-answer
returns-then-number-from-clause-answer c =
    let put = c.put_digits_at in (
      grind (arith, nat_tests),
      few_put _ _ _ _ _ c.requires.room put.ensures.row _ (grind (arith, plain_unsigned))
          (digits_ascii 10 false _ (omega arith) (omega arith)) put.ensures.count put.ensures.few,
    )

pub returns-then-number-from-2-clause-answer : goal.returns-then-number-from-2-clause-answer
returns-then-number-from-2-clause-answer c =
    let put = c.put_digits_at-then-number-from-2 in (
      grind (arith, nat_tests),
      few_put _ _ _ _ _ c.requires.room put.ensures.row _ (grind (arith, plain_signed))
          (digits_ascii 10 false _ (omega arith) (omega arith)) put.ensures.count put.ensures.few,
    )
