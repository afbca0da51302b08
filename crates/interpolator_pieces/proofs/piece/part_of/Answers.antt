use Rattle.std.proofs.Common.{rules, arith, ◌<◌, ◌^◌, length}
use Rattle.interpolator_pieces.proofs.{RunLemmas.part_within, StoredLemmas.detail_bare}
use Rattle.interpolator_pieces.proofs.piece.part_of.Goals as goal

pub bare_from-requires : goal.bare_from-requires
bare_from-requires c =
    let small : length c.args._text.now < 2 ^ 64 = search rules in
    grind (arith, detail_bare, (part_within _ _ _ c.requires.fits).0)
