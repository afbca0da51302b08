use Rattle.std.proofs.Common.{rules, arith}
use Rattle.interpolator_pieces.proofs.ParseLemmas.{all_skipped}
use Rattle.interpolator_pieces.proofs.parse.skip_all.Goals as goal

pub returns : goal.returns
returns c = all_skipped _ _ c.split_at.result.1.now (search rules) (omega arith)
