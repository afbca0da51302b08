use Rattle.std.proofs.Common.{length, Option}
use Rattle.std.specs.List.{All}
use Rattle.interpolator_syntax.specs.Faults.{Answer}
use Rattle.interpolator_eval.specs.{Meaning.Environments.environment, Escaping.shows_by}
use Rattle.interpolator_eval.specs.Meaning.Outcomes.{Outcome}
use Rattle.interpolator_render.specs.Writers.{Written}
use Rattle.interpolator_prepared.specs.Rows.{name_bytes}
use Rattle.interpolator_prepared.specs.StoredSteps.{Fit, steps_of, stored_steps_mean}
use Rattle.interpolator_prepared.proofs.run.run_steps.Given as goal

-- what was written, and then what the steps that are left mean, is what all of them mean
abbrev pub invariant-loop-step : goal.invariant-loop-step
invariant-loop-step g l =
    let row = g.R.PreparedRow in
    let meaning = stored_steps_mean (shows_by g.E.Escaper.shown g.R.Object.Value.shows)
    (environment (row.finds_in l.named.row.now (name_bytes l.named.names.now)))
    (row.value_at l.named.row.now) l.text in
    record {
      fit : All (λ step. Fit (steps_of l.text step)) l.left;
      goes_on : (new : Written) (answer : Option Answer)
          → Outcome (meaning l.left) (g.W.TextWrite.written l.out) new answer
          → Outcome (meaning l.steps) (g.W.TextWrite.written l.fn.out) new answer;
    }

abbrev pub decreases-loop-step : goal.decreases-loop-step
decreases-loop-step g l = length l.left
