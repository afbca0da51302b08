use Rattle.std.proofs.Common.{arith, sym}
use Rattle.interpolator_syntax.specs.Places.{at}
use Rattle.interpolator_syntax.proofs.GroupLemmas.{at_first, next_shorter, past_near}
use Rattle.interpolator_syntax.proofs.bracket.next_candidate.Goals as goal

pub returns-in_default : goal.returns-in_default
returns-in_default c = (at c.args.here, at_first _ _, sym c.in_default.ensures)

pub loop-next-init : goal.loop-next-init
loop-next-init c = (at c.args.here, at_first _ _, sym c.in-Some.ensures)

pub loop-next-smaller : goal.loop-next-smaller
loop-next-smaller c =
    let found = c.in-Some-find_bracket in next_shorter _ _ (at found.behind) (sym found.ensures)

pub loop-next-preserved : goal.loop-next-preserved
loop-next-preserved c =
    past_near c.args.count (at c.args.here) (at c.loop-next.bracket) (at c.loop-next.rest) _ _
    c.loop-next.invariant (sym c.in-Some-find_bracket.ensures) (grind arith)
