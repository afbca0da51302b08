use Rattle.std.proofs.Common.{rules, arith, ◌<◌, ◌^◌, length}
use Rattle.interpolator_pieces.proofs.RunLemmas.{name_within}
use Rattle.interpolator_pieces.proofs.piece_text.name_of.Goals as goal

pub overflow_add-result : goal.overflow_add-result
overflow_add-result c =
    let small : length c.args.text.now < 2 ^ 64 = search rules in
    let within = name_within _ _ _ _ c.requires.fits in
    omega (arith, small, within.0, within.1)
