-- What writing a meaning without a fault can return.
use Rattle.std.proofs.Common.{◌≡◌, arith, [], Option, Some, None, Result, IfErr, String}
use Rattle.interpolator_render.specs.Writers.{Written}
use Rattle.interpolator_syntax.specs.Faults.{Answer, no_memory, answer_of}
use Rattle.interpolator_syntax.specs.declared.error.Error.{Error}
use Rattle.interpolator_eval.specs.Meaning.Meanings.{Meaning}
use Rattle.interpolator_eval.specs.Meaning.Outcomes.{Outcome, Formats, OnlyRefused}

module _ (m : Meaning) (old new : Written) (answer : Option Answer) (none : m.fault ≡ None) where
  pub only_refused : Outcome m old new answer → OnlyRefused new answer
  only_refused o = grind arith

  pub wants_none : m.memory_points ≡ [] → Outcome m old new answer → ¬ (answer ≡ Some no_memory)
  wants_none points o h = grind arith

pub only_memory_refused : {Z : Type 0} (m : Meaning) (result : Result (String Z) Error)
    → m.fault ≡ None → Formats m result → IfErr result (λ error. answer_of error ≡ no_memory)
only_memory_refused m result none h = grind arith
