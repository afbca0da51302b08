use Rattle.std.proofs.Common.{arith, sym, ap, ◌∙◌}
use Rattle.std.proofs.lemmas.Iterator.{YieldsList-from_chars}
use Rattle.std.proofs.{lemmas.Iterator.Consumers.YieldsList-end, lemmas.List.map-id}
use Rattle.interpolator_escapes.specs.{CodeReaders.csv_state, Csv.csv_step, Readers.state_after}
use Rattle.interpolator_escapes.proofs.ReaderLemmas.{state-append}
use Rattle.interpolator_escapes.proofs.readers.csv.csv_after.Goals as goal

pub loop-c-preserved : goal.loop-c-preserved
loop-c-preserved c = grind (arith, state-append, c.loop-c.invariant, c.after.ensures.state)

pub returns : goal.returns
returns c =
    let yields = YieldsList-from_chars c.args.text.now c.utf8.text cc in
    let all = YieldsList-end yields c.loop-c.yielded _ c.loop-c.yielded_by _ _ c.in-None.is
    c.next.ensures.steps in
    c.loop-c.invariant
    ∙ ap (λ cs. state_after csv_step (csv_state c.args.state) cs)
    (sym (map-id c.loop-c.yielded) ∙ all.0)
