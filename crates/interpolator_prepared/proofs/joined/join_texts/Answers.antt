use Rattle.interpolator_prepared.proofs.JoinedLemmas.{stands_for}
use Rattle.interpolator_prepared.proofs.joined.join_texts.Goals as goal

pub returns : goal.returns
returns c =
    record {
      joined = stands_for c.add_texts.new.joined _
          (c.in_ok-add_texts.ensures.added _ c.no_parts-joined.ensures);
    }
