use Rattle.std.proofs.Common.{arith}
use Rattle.interpolator_pieces.proofs.{RunLemmas.first_piece, WholePieceLemmas.in_item}
use Rattle.interpolator_pieces.proofs.stored_source.StoredFormatSource.item.Goals as goal

pub invariant_of-result : goal.invariant_of-result
invariant_of-result c =
    let source = c.args.list.now in
    let x = c.index-pieces-0.result in
    let first = first_piece source.text.now source.pieces.now x c.requires.met c.index-pieces-0.is
    source.fits in
    record {
      fits = (in_item source.text.now x c.in-Some.item c.deref.result.now c.deref.ensures.value
          first.whole (grind arith)).whole;
    }
