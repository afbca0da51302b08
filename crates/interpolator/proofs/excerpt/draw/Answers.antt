use Rattle.std.proofs.Common.{rules}
use Rattle.std.specs.Str.{chars}
use Rattle.interpolator.proofs.ExcerptLemmas.{shown_part}
use Rattle.interpolator.proofs.excerpt.draw.Goals as goal

pub returns : goal.returns
returns c =
    rw (shown_part (chars c.args.line.now) c.args.around c.args.marked.0 c.args.marked.1)
    (search rules)
