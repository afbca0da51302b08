-- The names are searched for the bytes of the name, which are the bytes of its characters.
use Rattle.std.proofs.lemmas.Str.{encodes-chars}
use Rattle.interpolator_eval.proofs.context_map.NameMap.find.Goals as goal

pub returns-then-count-gt-SHORT : goal.returns-then-count-gt-SHORT
returns-then-count-gt-SHORT g c = rw (encodes-chars c.args.name.now c.utf8.name) c.find_any.ensures

pub returns-then-count-le2 : goal.returns-then-count-le2
returns-then-count-le2 g c = rw (encodes-chars c.args.name.now c.utf8.name) c.find_by_ends.ensures

pub returns-then-count-le4 : goal.returns-then-count-le4
returns-then-count-le4 g c = rw (encodes-chars c.args.name.now c.utf8.name) c.find_by_ends-then-count-le4.ensures

pub returns-then-count-le8 : goal.returns-then-count-le8
returns-then-count-le8 g c = rw (encodes-chars c.args.name.now c.utf8.name) c.find_by_ends-then-count-le8.ensures

pub returns-else-count-le8 : goal.returns-else-count-le8
returns-else-count-le8 g c = rw (encodes-chars c.args.name.now c.utf8.name) c.find_by_ends-else-count-le8.ensures
