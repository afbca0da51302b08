use Rattle.std.proofs.Common.{arith}
use Rattle.interpolator_pieces.proofs.StoredLemmas.{node_of_out, node_of_roll}
use Rattle.interpolator_pieces.proofs.copy.+copy.Goals as goal

pub copy_piece-returns : goal.copy_piece-returns
copy_piece-returns t c = record {
  same = λ bs. grind (
    arith,
    node_of_out,
    node_of_roll,
    c.in_ok-detail.ensures.same,
    c.in_ok-item.ensures.same bs,
    c.in_ok-join.ensures.same bs,
  );
}
