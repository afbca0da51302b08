use Rattle.std.proofs.{Common.refl, Common.sym, lemmas.Result.err_from_is_err_and}
use Rattle.interpolator_syntax.specs.Places.{at}
use Rattle.interpolator_syntax.proofs.PieceLemmas.{read_alone}
use Rattle.interpolator_eval.proofs.MeaningLemmas.ScanLemmas.{value_reported, value_means_so}
use Rattle.interpolator_eval.proofs.evaluate.scanned_argument.write_argument.Goals as goal

pub returns-in_err-write_plain_value-in-Some-clause-outcome :
    goal.returns-in_err-write_plain_value-in-Some-clause-outcome
returns-in_err-write_plain_value-in-Some-clause-outcome g c p =
    let here = at c.args.here in
    let err = err_from_is_err_and c.from_residual.result c.from_residual.ensures.1 in
    let closed = sym c.in-Some.ensures in
    let read = read_alone here c.take_name-named.result _ c.take_name-named.ensures.read closed in
    rw (err.1, err.2, value_means_so here p _ _ read _ refl, closed)
    c.in_err-write_plain_value-in-Some.ensures.outcome

pub returns-in_ok-write_plain_value-in-Some : goal.returns-in_ok-write_plain_value-in-Some
returns-in_ok-write_plain_value-in-Some g c =
    let here = at c.args.here in
    let closed = sym c.in-Some.ensures in
    let read = read_alone here c.take_name-named.result _ c.take_name-named.ensures.read closed in
    record {
      outcome = λ p. rw (value_means_so here p _ _ read _ refl, closed)
          c.in_ok-write_plain_value-in-Some.ensures.outcome;
      rest = λ p. value_reported here p _ _ read _ refl _ closed;
    }
