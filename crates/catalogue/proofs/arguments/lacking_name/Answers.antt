use Rattle.std.proofs.lemmas.Str.{encodes-chars}
use Rattle.catalogue.proofs.arguments.lacking_name.Goals as goal

pub returns : goal.returns
returns c = rw (encodes-chars c.args.name.now c.utf8.name) c.in_ok-what.ensures.ok
