use Rattle.std.proofs.Common.{arith}
use Rattle.catalogue.proofs.UnusedLemmas.{same_chars}
use Rattle.catalogue.proofs.unused.is_name.Goals as goal

pub returns : goal.returns
returns c = grind (arith, same_chars c.args.text.now c.args.name.now c.utf8.text c.utf8.name)
