use Rattle.std.proofs.Common.{refl, ◌≡◌}
use Rattle.std.proofs.lemmas.Result.{err_from_is_err_and}
use Rattle.interpolator_syntax.specs.Arguments.{list_of, kind_of_request}
use Rattle.interpolator_syntax.specs.{Places.at, SpecTexts.of_list}
use Rattle.interpolator_eval.proofs.MeaningLemmas.LookUpLemmas.{value_asked}
use Rattle.interpolator_eval.proofs.MeaningLemmas.ScanLemmas.{asked_ok, asked_broken, broken_writes}
use Rattle.interpolator_eval.proofs.MeaningLemmas.ScanLemmas.{list_reported, list_writes}
use Rattle.interpolator_eval.proofs.MeaningLemmas.ScanLemmas.{value_reported}
use Rattle.interpolator_eval.proofs.MeaningLemmas.ScanLemmas.{value_means_so}
use Rattle.interpolator_eval.proofs.evaluate.scanned_argument.write_asked.Goals as goal

pub returns-in-Err-clause-outcome : goal.returns-in-Err-clause-outcome
returns-in-Err-clause-outcome g c p =
    let read = asked_broken (at c.args.here) c.args.named c.requires.named _ c.in-Err.ensures in
    rw c.from.ensures (broken_writes (at c.args.here) p _ _ _ _ read)

pub returns-in-Iter : goal.returns-in-Iter
returns-in-Iter g c =
    let asked = c.take_request.new.asked in
    let read = asked_ok (at c.args.here) c.args.named c.requires.named _ _ c.in-Ok.ensures in
    let list : kind_of_request asked ≡ of_list (list_of asked.list) = rw c.in-Iter.is refl in
    record {
      outcome = λ p. list_writes (at c.args.here) p _ _ read _ list _ _ _;
      rest = λ p. list_reported (at c.args.here) p _ _ read _ list;
    }

pub returns-in_err-after : goal.returns-in_err-after
returns-in_err-after g c =
    let asked = c.take_request.new.asked in
    let read = asked_ok (at c.args.here) c.args.named c.requires.named _ _ c.in-Ok.ensures in
    let value = value_asked asked.slot (list_of asked.list) c.in_default.not-Iter in
    let err = err_from_is_err_and c.from_residual.result c.from_residual.ensures.1 in
    rw (err.1, err.2) (record {
      outcome = λ p. rw (value_means_so (at c.args.here) p _ _ read _ value)
          c.in_err-after.ensures.outcome;
      rest = λ p. tt;
    })

pub returns : goal.returns
returns g c =
    let asked = c.take_request.new.asked in
    let read = asked_ok (at c.args.here) c.args.named c.requires.named _ _ c.in-Ok.ensures in
    let value = value_asked asked.slot (list_of asked.list) c.in_default.not-Iter in
    record {
      outcome = λ p. rw (value_means_so (at c.args.here) p _ _ read _ value)
          c.in_ok-after.ensures.outcome;
      rest = λ p. value_reported (at c.args.here) p _ _ read _ value _ c.in_ok-after.ensures.rest;
    }
