use Rattle.std.proofs.{Common.arith}
use Rattle.std.proofs.Common.{eqb, ◌||◌}
use Rattle.interpolator_syntax.proofs.ByteLemmas.{found_nowhere, past_block}
use Rattle.interpolator_syntax.proofs.class.bytes_before.Goals as goal

pub returns-in-None : goal.returns-in-None
returns-in-None c =
    let past =
    past_block (λ b. eqb b c.args.first || eqb b c.args.second) c.args.bytes.now _
    c.skip_wide-rest.result.now 16 c.in_default-block_index.ensures c.split_at.ensures.back
    (c.skip_wide-rest.ensures.shorter, c.skip_wide-rest.ensures.first) in
    grind (arith, past, found_nowhere)

pub returns-in-Some-byte_position : goal.returns-in-Some-byte_position
returns-in-Some-byte_position c =
    let past =
    past_block (λ b. eqb b c.args.first || eqb b c.args.second) c.args.bytes.now _
    c.skip_wide-rest.result.now 16 c.in_default-block_index.ensures c.split_at.ensures.back
    (c.skip_wide-rest.ensures.shorter, c.skip_wide-rest.ensures.first) in
    grind (arith, past)
