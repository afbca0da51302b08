use Rattle.strangers.proofs.ServingLemmas.{no_first}
use Rattle.strangers.proofs.serving.decided.Goals as goal

pub written-requires : goal.written-requires
written-requires c = no_first _ c.in_ok-check_template.ensures.first
