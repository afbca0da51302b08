use Rattle.interpolator_border.proofs.TableLemmas.{column_faults}
use Rattle.interpolator_border.proofs.table.prepare.Goals as goal

pub returns-in-Ok-pairs_of : goal.returns-in-Ok-pairs_of
returns-in-Ok-pairs_of c =
    column_faults c.args.columns.now c.args.format.now c.in-Some.text.now _ _
    c.in-Ok-pairs_of.pairs.items _ c.in-Some.ensures.0 c.in-Some.ensures.1
    c.in-Ok.ensures.template c.deref.ensures.value c.in-Ok-pairs_of.ensures
    c.in-Err-prepare.ensures.refused
