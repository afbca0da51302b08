use Rattle.std.proofs.{Common.arith, lemmas.Grind.common_steps, lemmas.Str.IsUtf8-past_char}
use Rattle.interpolator_syntax.proofs.FrontLemmas.{rest_more, rest_boundary, front_at_rest}
use Rattle.interpolator_syntax.proofs.class.split_while.Goals as goal

pub loop-after-preserved : goal.loop-after-preserved
loop-after-preserved c =
    let first = c.in-Some.ensures.bytes in
    let more = rest_more c.args.text.now c.loop-after.rest.now c.in-Some.after.now first.0 in
    grind (arith, IsUtf8-past_char, more)

pub split_at-requires : goal.split_at-requires
split_at-requires c = grind (arith, common_steps, rest_boundary)

pub returns-clause-front : goal.returns-clause-front
returns-clause-front c = grind (arith, common_steps, front_at_rest)
