use Rattle.std.proofs.{Common.arith, lemmas.Grind.common_steps}
use Rattle.interpolator_syntax.proofs.ByteLemmas.{cut_boundary, chars_front, chars_after}
use Rattle.interpolator_syntax.proofs.class.split_before.Goals as goal

pub split_at-requires : goal.split_at-requires
split_at-requires c =
    let cut = cut_boundary c.args.first c.args.second c.requires.first c.requires.second in
    grind (arith, common_steps, cut)

pub returns-clause-front : goal.returns-clause-front
returns-clause-front c =
    let front = chars_front c.args.first c.args.second c.requires.first c.requires.second in
    grind (arith, common_steps, front)

pub returns-clause-after : goal.returns-clause-after
returns-clause-after c =
    let after = chars_after c.args.first c.args.second c.requires.first c.requires.second in
    grind (arith, common_steps, after)
