use Rattle.records.proofs.EndLemmas.{all_lost, none_lost}
use Rattle.records.proofs.head.without_end.Goals as goal

pub loop-rest-init : goal.loop-rest-init
loop-rest-init c = (c.utf8.text, none_lost c.args.text.now)

pub returns : goal.returns
returns c = all_lost c.args.text.now c.loop-rest.kept.now c.loop-rest.invariant.1 c.in_default.ensures
