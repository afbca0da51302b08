use Rattle.std.proofs.Common.{◌≡◌, arith, length, rules, [], ◌∷◌}
use Rattle.std.proofs.{lemmas.Bool.Decides.nat_tests, lemmas.Result.err_from_is_err_and}
use Rattle.interpolator_eval.specs.Meaning.Environments.{environment}
use Rattle.interpolator_eval.proofs.MeaningLemmas.SinkLemmas.{and_then, fault_first}
use Rattle.interpolator_prepared.specs.Rows.{name_bytes}
use Rattle.interpolator_prepared.specs.StoredSteps.{compiled_list, kept_step, steps_of}
use Rattle.interpolator_pieces.specs.Stored.{node_of}
use Rattle.interpolator_prepared.proofs.StepLemmas.{fit_rest, steps_end}
use Rattle.interpolator_prepared.proofs.run.run_steps.Goals as goal

pub loop-step-init : goal.loop-step-init
loop-step-init g c = record { fit = c.requires.fit; goes_on = λ new answer k. k }

pub returns-in_err-run_list-in-List : goal.returns-in_err-run_list-in-List
returns-in_err-run_list-in-List g c =
    let err = err_from_is_err_and c.from_residual.result c.from_residual.ensures.1 in
    let list : steps_of c.args.text.now c.in-Some.step.now
    ≡ compiled_list c.args.text.now c.deref.result.now ∷ [] = search rules in
    let value_at = g.R.PreparedRow.value_at c.args.named.now.row.now in
    rw (err.1, err.2) (record {
      outcome = c.loop-step.invariant.goes_on _ _ (rw (c.in-Some.ensures.cases.0, list)
          (fault_first _ _ _ _ _ (c.in_err-run_list-in-List.ensures.outcome value_at)));
    })

pub returns-in_err-run_kept-in-Kept : goal.returns-in_err-run_kept-in-Kept
returns-in_err-run_kept-in-Kept g c =
    let residual = c.from_residual-in_err-run_kept-in-Kept in
    let err = err_from_is_err_and residual.result residual.ensures.1 in
    let kept : steps_of c.args.text.now c.in-Some.step.now
    ≡ kept_step (node_of c.args.text.now c.deref-in-Kept.result.now) ∷ [] = search rules in
    let value_at = g.R.PreparedRow.value_at c.args.named.now.row.now in
    rw (err.1, err.2) (record {
      outcome = c.loop-step.invariant.goes_on _ _ (rw (c.in-Some.ensures.cases.0, kept)
          (fault_first _ _ _ _ _ (c.in_err-run_kept-in-Kept.ensures.outcome value_at)));
    })

pub returns-in_err-put_step-in_default-step : goal.returns-in_err-put_step-in_default-step
returns-in_err-put_step-in_default-step g c =
    let residual = c.from_residual-in_err-put_step-in_default-step in
    let err = err_from_is_err_and residual.result residual.ensures.1 in
    let named = c.args.named.now in
    let e = environment (g.R.PreparedRow.finds_in named.row.now (name_bytes named.names.now)) in
    rw (err.1, err.2) (record {
      outcome = c.loop-step.invariant.goes_on _ _ (rw c.in-Some.ensures.cases.0
          (fault_first _ _ _ _ _ (c.in_err-put_step-in_default-step.ensures.outcome e)));
    })

pub loop-step-preserved-in_ok-run_list-in-List : goal.loop-step-preserved-in_ok-run_list-in-List
loop-step-preserved-in_ok-run_list-in-List g c =
    let list : steps_of c.args.text.now c.in-Some.step.now
    ≡ compiled_list c.args.text.now c.deref.result.now ∷ [] = search rules in
    let value_at = g.R.PreparedRow.value_at c.args.named.now.row.now in
    record {
      fit = fit_rest c.args.text.now _ _ _ c.in-Some.ensures.cases.0 c.loop-step.invariant.fit;
      goes_on = λ new answer k. c.loop-step.invariant.goes_on new answer
          (rw (c.in-Some.ensures.cases.0, list)
          (and_then _ _ _ _ _ _ (c.in_ok-run_list-in-List.ensures.outcome value_at) k));
    }

pub loop-step-preserved-in_ok-run_kept-in-Kept : goal.loop-step-preserved-in_ok-run_kept-in-Kept
loop-step-preserved-in_ok-run_kept-in-Kept g c =
    let kept : steps_of c.args.text.now c.in-Some.step.now
    ≡ kept_step (node_of c.args.text.now c.deref-in-Kept.result.now) ∷ [] = search rules in
    let value_at = g.R.PreparedRow.value_at c.args.named.now.row.now in
    record {
      fit = fit_rest c.args.text.now _ _ _ c.in-Some.ensures.cases.0 c.loop-step.invariant.fit;
      goes_on = λ new answer k. c.loop-step.invariant.goes_on new answer
          (rw (c.in-Some.ensures.cases.0, kept)
          (and_then _ _ _ _ _ _ (c.in_ok-run_kept-in-Kept.ensures.outcome value_at) k));
    }

pub loop-step-preserved : goal.loop-step-preserved
loop-step-preserved g c =
    let named = c.args.named.now in
    let e = environment (g.R.PreparedRow.finds_in named.row.now (name_bytes named.names.now)) in
    record {
      fit = fit_rest c.args.text.now _ _ _ c.in-Some.ensures.cases.0 c.loop-step.invariant.fit;
      goes_on = λ new answer k. c.loop-step.invariant.goes_on new answer
          (rw c.in-Some.ensures.cases.0
          (and_then _ _ _ _ _ _ (c.in_ok-put_step-in_default-step.ensures.outcome e) k));
    }

pub returns : goal.returns
returns g c =
    let named = c.args.named.now in
    let e = environment (g.R.PreparedRow.finds_in named.row.now (name_bytes named.names.now)) in
    let none : length c.loop-step.left.now ≡ 0 = grind (arith, nat_tests) in
    record { outcome = c.loop-step.invariant.goes_on _ _ (steps_end _ e _ _ _ _ none) }
