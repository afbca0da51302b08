use Rattle.std.proofs.Common.{arith}
use Rattle.merge.proofs.ValueLemmas.{all_shown, misfit_here, shown_more}
use Rattle.merge.proofs.values.views_of.Goals as goal

pub loop-at-init : goal.loop-at-init
loop-at-init c = rw (c.in_ok-views.ensures.items) (record { shown = λ more h. h; misfit = λ found h. h })

pub loop-at-preserved : goal.loop-at-preserved
loop-at-preserved c =
    rw (c.in_ok-push-in-Some.ensures.items)
    (shown_more c.args.columns.now c.args.fields.now c.loop-at.at _ _
    (omega (arith, c.loop-at-test.true, c.requires)) c.loop-at-test.true c.index-fields-at.is
    c.loop-at.views.items c.loop-at.invariant _
    (rw c.as_str.ensures at c.in-Some.ensures))

pub returns-in-None : goal.returns-in-None
returns-in-None c =
    misfit_here c.args.columns.now c.args.fields.now c.loop-at.at _ _
    (omega (arith, c.loop-at-test.true, c.requires)) c.loop-at-test.true c.index-fields-at.is
    c.loop-at.views.items c.loop-at.invariant (rw c.as_str.ensures at c.in-None.ensures)

pub returns : goal.returns
returns c =
    all_shown c.args.columns.now c.args.fields.now c.loop-at.at c.loop-at.views.items
    (omega (arith, c.loop-at-test.false, c.requires)) c.loop-at-test.false c.loop-at.invariant
