use Rattle.interpolator_escapes.specs.Search.{ArePlain}
use Rattle.interpolator_escapes.proofs.search.first_between.Given as goal

abbrev pub invariant-loop-index : goal.invariant-loop-index
invariant-loop-index l = ArePlain l.escape l.bytes l.index
