use Rattle.std.proofs.Common.{take, arith, length-take-le}
use Rattle.interpolator_syntax.proofs.ByteLemmas.{no_hit, a_hit}
use Rattle.interpolator_syntax.proofs.class.wide_position.Goals as goal

pub returns-then-hits-eq0 : goal.returns-then-hits-eq0
returns-then-hits-eq0 c =
    no_hit c.args.first c.args.second (take 32 c.args.bytes.now) 32
    (length-take-le 32 c.args.bytes.now c.requires) (omega arith) c.if-hits-eq0.true

pub returns : goal.returns
returns c =
    a_hit c.args.first c.args.second (take 32 c.args.bytes.now) 32
    (length-take-le 32 c.args.bytes.now c.requires) (omega arith) c.if-hits-eq0.false
