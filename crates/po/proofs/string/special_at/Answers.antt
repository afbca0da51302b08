use Rattle.po.proofs.StringLemmas.{open_end}
use Rattle.po.proofs.string.special_at.Goals as goal

pub returns-in_default-strip-clause-special : goal.returns-in_default-strip-clause-special
returns-in_default-strip-clause-special c =
    open_end c.args.text.now c.requires c.in_default.ensures c.in_default-strip.ensures
