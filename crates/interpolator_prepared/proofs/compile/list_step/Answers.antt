use Rattle.interpolator_prepared.proofs.{CompileLemmas.if_same, KeptLemmas.kept_is}
use Rattle.interpolator_prepared.proofs.compile.list_step.Goals as goal

pub returns-in-None : goal.returns-in-None
returns-in-None c =
    record {
      step = if_same _ c.args.text.now _ _ (kept_is _ c.requires.whole) c.kept.ensures.step;
    }
