use Rattle.std.proofs.Common.{ap, sym, ◌∙◌, ◌+◌}
use Rattle.interpolator_syntax.specs.{Places.size, Places.outermost, Grammar.from_place}
use Rattle.interpolator_eval.specs.Meaning.Meanings.{chain, means}
use Rattle.interpolator_eval.proofs.MeaningLemmas.MovedLemmas.{means_from}
use Rattle.interpolator_eval.proofs.MeaningLemmas.MeaningLemmas.{nothing_last}
use Rattle.interpolator.proofs.PartLemmas.{means_next, zero_and}
use Rattle.interpolator.proofs.laws.parts.second_text_is_moved.Goals as goal

pub returns-clause-joined : goal.returns-clause-joined
returns-clause-joined g c = λ e a b h seam.
    let shows = g.V.Value.shows in
    let first = means shows e (outermost a) in
    sym (means_next shows e a b (h, seam)) ∙ ap (chain first) (means_from shows e (size a) b)

pub returns-clause-parts : goal.returns-clause-parts
returns-clause-parts g c = λ e a b.
    let shows = g.V.Value.shows in
    let first = means shows e (outermost a) in
    ap (chain first)
    (nothing_last (means shows e (from_place (0 + size a) b))
    ∙ ap (λ n. means shows e (from_place n b)) (zero_and (size a))
    ∙ means_from shows e (size a) b)
