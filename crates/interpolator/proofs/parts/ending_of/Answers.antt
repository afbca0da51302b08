use Rattle.std.proofs.Common.{sym, arith}
use Rattle.interpolator_syntax.specs.Places.{at}
use Rattle.interpolator.proofs.EndingLemmas.{scanned, scanned_end}
use Rattle.interpolator.proofs.parts.ending_of.Goals as goal

pub loop-token-smaller : goal.loop-token-smaller
loop-token-smaller c =
    grind (arith, scanned (at c.loop-token.here) _ (sym c.in-Some.ensures.token))

pub loop-token-preserved : goal.loop-token-preserved
loop-token-preserved c =
    grind (arith, scanned (at c.loop-token.here) _ (sym c.in-Some.ensures.token))

pub returns : goal.returns
returns c = grind (arith, scanned_end (at c.loop-token.here) (sym c.in_default.ensures.token))
