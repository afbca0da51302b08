use Rattle.std.proofs.Common.{◌∙◌, sym}
use Rattle.interpolator_prepared.proofs.RowLemmas.{found_before, found_last}
use Rattle.interpolator_prepared.proofs.row.last_position.Goals as goal

pub returns-then-is_name : goal.returns-then-is_name
returns-then-is_name c =
    found_last _ c.in-Some.before.now c.in-Some.own.now c.args.name.now c.in-Some.ensures.cases.0
    (sym c.is_name.ensures ∙ c.if-is_name.true)
    ∙ c.loop-own.invariant

pub loop-own-preserved : goal.loop-own-preserved
loop-own-preserved c =
    found_before _ c.in-Some.before.now c.in-Some.own.now c.args.name.now c.in-Some.ensures.cases.0
    (sym c.is_name.ensures ∙ c.if-is_name.false)
    ∙ c.loop-own.invariant
