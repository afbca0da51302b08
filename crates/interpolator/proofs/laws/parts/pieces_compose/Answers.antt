use Rattle.std.proofs.Common.{arith, length}
use Rattle.interpolator.proofs.SeamLemmas.{pieces_append}
use Rattle.interpolator.proofs.laws.parts.pieces_compose.Goals as goal

pub returns : goal.returns
returns c =
    record {
      compose = λ a more h k. pieces_append (length a.text) a.place a.text more (omega arith)
          (h, k);
    }
