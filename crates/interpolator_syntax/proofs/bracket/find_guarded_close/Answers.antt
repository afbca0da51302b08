use Rattle.std.proofs.Common.{arith}
use Rattle.interpolator_syntax.specs.Places.{at}
use Rattle.interpolator_syntax.proofs.GroupLemmas.{candidate, reached_end}
use Rattle.interpolator_syntax.proofs.GroupLemmas.{reached_bracket, reached_past, reached_close}
use Rattle.interpolator_syntax.proofs.GroupLemmas.{shorter_reached}
use Rattle.interpolator_syntax.proofs.bracket.find_guarded_close.Goals as goal

pub text_before-requires : goal.text_before-requires
text_before-requires c =
    let (h, there, next) =
    candidate _ (at c.args.start) _ _ c.loop-close.invariant c.in-Some.ensures in
    let bracket = reached_bracket c.args.count (at c.args.start) h (at c.in-Some.close) in
    grind (arith, bracket _ there next)

pub returns-in-Some-skip_hashes-clause-found : goal.returns-in-Some-skip_hashes-clause-found
returns-in-Some-skip_hashes-clause-found c =
    let (h, there, next) =
    candidate _ (at c.args.start) _ _ c.loop-close.invariant c.in-Some.ensures in
    let found = reached_close c.args.count (at c.args.start) h (at c.in-Some.close) in
    grind (arith, found (at c.in-Some.after) (at c.in-Some-skip_hashes.end), there, next)

pub loop-close-smaller : goal.loop-close-smaller
loop-close-smaller c =
    let (h, there, next) = c.in-Some.ensures in
    shorter_reached c.args.count (at c.loop-close.here) h _ _ there next

pub loop-close-preserved : goal.loop-close-preserved
loop-close-preserved c =
    let (h, there, next) =
    candidate _ (at c.args.start) _ _ c.loop-close.invariant c.in-Some.ensures in
    let past = reached_past c.args.count (at c.args.start) h (at c.in-Some.close) in
    grind (arith, past (at c.in-Some.after) there next)

pub returns-clause-found : goal.returns-clause-found
returns-clause-found c =
    let (h, there, next) =
    candidate _ (at c.args.start) _ _ c.loop-close.invariant c.in_default.ensures in
    reached_end c.args.count _ h there next
