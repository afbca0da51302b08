use Rattle.std.proofs.lemmas.Iterator.Consumers.{map_from_collect}
use Rattle.std.proofs.lemmas.Iterator.Splits.{YieldsList-from_lines}
use Rattle.catalogue.proofs.files.texts_in.Goals as goal

pub returns : goal.returns
returns c = rw c.without_mark.ensures at (map_from_collect _ c.collect.ensures.ran
    (YieldsList-from_lines c.without_mark.result.now cc))
