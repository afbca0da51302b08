use Rattle.std.proofs.Common.{arith, sym, ap, ◌∙◌}
use Rattle.std.proofs.lemmas.Iterator.{YieldsList-from_chars}
use Rattle.std.proofs.{lemmas.Iterator.Consumers.YieldsList-end, lemmas.List.map-id}
use Rattle.interpolator_escapes.specs.Readers.{state_after}
use Rattle.interpolator_escapes.proofs.ReaderLemmas.{state-append}
use Rattle.interpolator_escapes.proofs.placing.read_text.Goals as goal

pub loop-c-preserved : goal.loop-c-preserved
loop-c-preserved g c = grind (arith, state-append, c.loop-c.invariant, c.in_ok-read.ensures)

pub returns : goal.returns
returns g c =
    let yields = YieldsList-from_chars c.args.text.now c.utf8.text cc in
    let all = YieldsList-end yields c.loop-c.yielded _ c.loop-c.yielded_by _ _ c.in-None.is
    c.next.ensures.steps in
    c.loop-c.invariant
    ∙ ap (λ cs. state_after g.R.Reader.step (g.R.Reader.state c.args.reader.now) cs)
    (sym (map-id c.loop-c.yielded) ∙ all.0)
