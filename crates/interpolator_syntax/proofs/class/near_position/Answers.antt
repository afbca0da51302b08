use Rattle.std.proofs.Common.{ap, ◌∙◌, rules, position}
use Rattle.interpolator_syntax.proofs.ByteLemmas.{near_is}
use Rattle.interpolator_syntax.proofs.class.near_position.Goals as goal

pub returns : goal.returns
returns c =
    near_is _ c.args.bytes.now c.min.result c.byte_position.result (search rules)
    (c.byte_position.ensures ∙ ap (position _) c.split_at.ensures.front)
