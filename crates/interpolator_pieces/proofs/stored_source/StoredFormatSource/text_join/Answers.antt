use Rattle.std.proofs.Common.{arith}
use Rattle.interpolator_pieces.proofs.{RunLemmas.first_piece, WholePieceLemmas.in_join}
use Rattle.interpolator_pieces.proofs.stored_source.StoredFormatSource.text_join.Goals as goal

pub text_pieces-requires : goal.text_pieces-requires
text_pieces-requires c =
    let source = c.args.list.now in
    let x = c.index-list-0.result in
    let first = first_piece source.text.now source.pieces.now x c.requires.met c.index-list-0.is
    source.fits in
    record {
      whole = (in_join source.text.now x c.in-Some.join c.deref.result.now c.deref.ensures.value
          first.whole (grind arith)).whole;
    }
