use Rattle.std.proofs.Common.{◌∙◌, ap, arith, sym}
use Rattle.std.proofs.lemmas.Iterator.Consumers.{YieldsList-end, YieldsList-turn}
use Rattle.std.proofs.{lemmas.Iterator.YieldsList-from_chars, lemmas.List.map-id}
use Rattle.std.specs.List.{sum_by}
use Rattle.report.specs.Widths.{width_of}
use Rattle.report.specs.declared.widths.TheConstants.{NONE, TWO}
use Rattle.report.proofs.WidthLemmas.{width_step}
use Rattle.report.proofs.widths.width.Goals as goal

pub loop-c-preserved : goal.loop-c-preserved
loop-c-preserved c =
    let turn = YieldsList-turn (YieldsList-from_chars c.args.text.now c.utf8.text cc)
    c.loop-c.yielded _ c.loop-c.yielded_by _ _ c.in-Some.c c.in-Some.is c.next.ensures.steps in
    c.saturating_add-width.ensures ∙ (rw c.width_of.ensures
    (width_step NONE TWO c.args.text.now c.loop-c.yielded c.in-Some.c c.loop-c.width c.utf8.text
    (omega arith) turn.0 c.loop-c.invariant))

pub returns : goal.returns
returns c =
    let all = YieldsList-end (YieldsList-from_chars c.args.text.now c.utf8.text cc)
    c.loop-c.yielded _ c.loop-c.yielded_by _ _ c.in-None.is c.next.ensures.steps in
    c.loop-c.invariant
    ∙ ap (λ cs. sum_by (width_of NONE TWO) cs) (sym (map-id c.loop-c.yielded) ∙ all.0)
