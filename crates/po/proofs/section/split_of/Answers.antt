use Rattle.std.proofs.{Common.arith, lemmas.List.Sums.prefix_len-le-length}
use Rattle.po.proofs.section.split_of.Goals as goal

pub split_at-requires : goal.split_at-requires
split_at-requires c = rw c.count_of.ensures (grind (arith, prefix_len-le-length))
