use Rattle.std.proofs.Common.{arith}
use Rattle.interpolator_pieces.proofs.{RunLemmas.first_piece, WholePieceLemmas.in_item}
use Rattle.interpolator_pieces.proofs.stored_source.StoredFormatSource.plain_item.Goals as goal

pub plain_pieces-requires : goal.plain_pieces-requires
plain_pieces-requires c =
    let source = c.args.list.now in
    let x = c.index-list-0.result in
    let first = first_piece source.text.now source.pieces.now x c.requires.met c.index-list-0.is
    source.fits in
    record {
      whole = (in_item source.text.now x c.in-Some.item c.deref.result.now c.deref.ensures.value
          first.whole (grind arith)).whole;
    }
