use Rattle.interpolator_prepared.proofs.{CompileLemmas.if_same, KeptLemmas.kept_is}
use Rattle.interpolator_prepared.proofs.compile.whole_step.Goals as goal

pub returns-in_default : goal.returns-in_default
returns-in_default c =
    record {
      step = if_same _ c.args.text.now _ _ (kept_is _ c.requires.whole) c.kept.ensures.step;
    }
