use Rattle.std.proofs.Common.{arith, sym}
use Rattle.interpolator_syntax.specs.Places.{at}
use Rattle.interpolator_syntax.proofs.GroupLemmas.{next_shorter, reached_end, reached_bracket}
use Rattle.interpolator_syntax.proofs.GroupLemmas.{reached_past, reached_close}
use Rattle.interpolator_syntax.proofs.bracket.find_close.Goals as goal

pub text_before-requires : goal.text_before-requires
text_before-requires c =
    let there = reached_bracket c.args.count (at c.args.start) (at c.loop-close.here) in
    grind (arith, there (at c.in-Some.close) (at c.in-Some.after))

pub returns-in-Some-skip_hashes-clause-found : goal.returns-in-Some-skip_hashes-clause-found
returns-in-Some-skip_hashes-clause-found c =
    let found = reached_close c.args.count (at c.args.start) (at c.loop-close.here) in
    grind (arith, found (at c.in-Some.close) (at c.in-Some.after) (at c.in-Some-skip_hashes.end))

pub loop-close-smaller : goal.loop-close-smaller
loop-close-smaller c = next_shorter _ _ (at c.in-Some.after) (sym c.in-Some.ensures)

pub loop-close-preserved : goal.loop-close-preserved
loop-close-preserved c =
    let past = reached_past c.args.count (at c.args.start) (at c.loop-close.here) in
    grind (arith, past (at c.in-Some.close) (at c.in-Some.after))

pub returns-clause-found : goal.returns-clause-found
returns-clause-found c =
    reached_end c.args.count _ _ c.loop-close.invariant (sym c.in_default.ensures)
