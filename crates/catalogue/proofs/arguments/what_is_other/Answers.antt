use Rattle.std.proofs.lemmas.Str.{encodes-chars}
use Rattle.catalogue.proofs.arguments.what_is_other.Goals as goal

pub returns-then-is_there : goal.returns-then-is_there
returns-then-is_there c = rw (c.if-is_there.true, encodes-chars c.args.name.now c.utf8.name)
    c.in_ok-what.ensures.ok

pub returns : goal.returns
returns c = rw (c.if-is_there.false, encodes-chars c.args.name.now c.utf8.name)
    c.in_ok-what-2.ensures.ok
