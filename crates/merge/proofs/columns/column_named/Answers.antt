use Rattle.std.proofs.Common.{◌∙◌}
use Rattle.merge.proofs.NameLemmas.{position_named}
use Rattle.merge.proofs.columns.column_named.Goals as goal

pub returns : goal.returns
returns c = c.place_of.ensures ∙ position_named c.args.columns.now c.args.name.now
