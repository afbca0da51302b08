use Rattle.interpolator_render.specs.Quoting.{escape_of}
use Rattle.interpolator_render.proofs.QuotingLemmas.{Runs}
use Rattle.interpolator_render.proofs.quoting.put_inside.Given as goal

abbrev pub invariant-loop-index : goal.invariant-loop-index
invariant-loop-index g l = Runs (escape_of l.quote) l.text l.start l.index
    (g.W.TextWrite.written l.initial.out) (g.W.TextWrite.written l.out)
