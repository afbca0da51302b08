use Rattle.interpolator_prepared.proofs.JoinedLemmas.{stands_for}
use Rattle.interpolator_prepared.proofs.joined.join_around.Goals as goal

pub returns : goal.returns
returns c =
    record {
      joined = stands_for c.add_texts-3.new.joined _
          (c.in_ok-add_texts-3.ensures.added _ (c.in_ok-add_texts-2.ensures.added _
          (c.in_ok-add_texts.ensures.added _ c.no_parts-joined.ensures)));
    }
