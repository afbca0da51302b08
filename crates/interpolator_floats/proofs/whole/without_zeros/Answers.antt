use Rattle.std.proofs.Common.{arith, rules}
use Rattle.interpolator_floats.proofs.UnitLemmas.{few_zeros, zero_off, zeros_joined}
use Rattle.interpolator_floats.proofs.whole.without_zeros.Goals as goal

pub loop-digits-init : goal.loop-digits-init
loop-digits-init c = record {
  some = c.without_run-digits.ensures.some;
  value = zeros_joined c.args.choice.count _ _ c.without_run-count.result.1 c.without_run-digits.result.1 c.without_run-count.ensures.value c.without_run-digits.ensures.value;
}

pub loop-digits-preserved : goal.loop-digits-preserved
loop-digits-preserved c =
    let l = c.loop-digits in
    record {
      some = omega (arith, l.invariant.some);
      value = zero_off c.args.choice.count l.digits l.zeros l.invariant.value (omega arith);
    }

pub overflow_add-zeros-in-loop-digits : goal.overflow_add-zeros-in-loop-digits
overflow_add-zeros-in-loop-digits c =
    let l = c.loop-digits in
    omega (arith, few_zeros c.args.choice.count l.digits l.zeros l.invariant.value l.invariant.some (search rules))

pub returns-clause-few : goal.returns-clause-few
returns-clause-few c =
    let l = c.loop-digits in
    few_zeros c.args.choice.count l.digits l.zeros l.invariant.value l.invariant.some (search rules)
