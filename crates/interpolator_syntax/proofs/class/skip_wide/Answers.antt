use Rattle.std.proofs.Common.{arith, ◌||◌, eqb}
use Rattle.interpolator_syntax.proofs.ByteLemmas.{first_within, one_block_less}
use Rattle.interpolator_syntax.proofs.class.skip_wide.Goals as goal

pub split_at-requires : goal.split_at-requires
split_at-requires c =
    first_within _ 32 _ c.loop-rest.rest.now c.loop-rest-test.true c.in-Some.ensures

pub returns-in-Some-clause-first : goal.returns-in-Some-clause-first
returns-in-Some-clause-first c =
    let less =
    one_block_less (λ b. eqb b c.args.first || eqb b c.args.second) c.args.bytes.now
    c.loop-rest.rest.now c.split_at.result.1.now 32 c.in-Some.index in
    grind (arith, less)

pub loop-rest-preserved : goal.loop-rest-preserved
loop-rest-preserved c =
    one_block_less _ c.args.bytes.now c.loop-rest.rest.now c.split_at-in-loop-rest.result.1.now
    32 32 c.loop-rest.invariant c.in_default.ensures c.split_at-in-loop-rest.ensures.back
