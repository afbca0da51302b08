use Rattle.std.proofs.Common.{◌≡◌, arith, length, rules, true}
use Rattle.std.proofs.lemmas.Result.{err_from_is_err_and}
use Rattle.std.specs.Str.{chars}
use Rattle.interpolator_syntax.proofs.CharacterLemmas.{size-chars}
use Rattle.interpolator_eval.specs.{Meaning.Environments.environment, Escaping.shows_by}
use Rattle.interpolator_eval.proofs.MeaningLemmas.PlaceLemmas.{outcome_lies_from}
use Rattle.interpolator_prepared.specs.Rows.{name_bytes}
use Rattle.interpolator_prepared.proofs.{StepLemmas.program_fits, WriteLemmas.row_outcome}
use Rattle.interpolator_prepared.proofs.written_row.write_row.Goals as goal

pub run_steps-requires : goal.run_steps-requires
run_steps-requires g c =
    record { fit = program_fits c.args.text.now c.args.steps.now _ c.requires.program }

pub returns-in_err-run_steps-clause-outcome : goal.returns-in_err-run_steps-clause-outcome
returns-in_err-run_steps-clause-outcome g c =
    let err = err_from_is_err_and c.from_residual.result c.from_residual.ensures.1 in
    let order : c.is_in_order.result ≡ true = search rules in
    rw (err.1, err.2) (row_outcome (shows_by g.E.Escaper.shown g.R.Object.Value.shows) _ _ _ c.args.text.now
    c.args.steps.now _ _ _ (c.is_in_order.ensures.in_order order)
    c.requires.program c.in_err-run_steps.ensures.outcome)

pub returns-in_err-run_steps-clause-place : goal.returns-in_err-run_steps-clause-place
returns-in_err-run_steps-clause-place g c =
    let text = c.args.text.now in
    let named = c.args.named.now in
    let e = environment (g.R.PreparedRow.finds_in named.row.now (name_bytes named.names.now)) in
    outcome_lies_from (shows_by g.E.Escaper.shown g.R.Object.Value.shows) e 0 (chars text) (length text) _ _ _
    (omega (arith, size-chars text c.utf8.text)) (returns-in_err-run_steps-clause-outcome g c)

pub returns-clause-outcome : goal.returns-clause-outcome
returns-clause-outcome g c =
    let order : c.is_in_order.result ≡ true = search rules in
    row_outcome (shows_by g.E.Escaper.shown g.R.Object.Value.shows) _ _ _ c.args.text.now
    c.args.steps.now _ _ _ (c.is_in_order.ensures.in_order order)
    c.requires.program c.in_ok-run_steps.ensures.outcome
