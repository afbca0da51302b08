use Rattle.std.proofs.Common.{◌∙◌, ◌+◌, ap}
use Rattle.interpolator_prepared.proofs.RowLemmas.{names_before, names_more}
use Rattle.interpolator_prepared.proofs.name_index.positions_of.Goals as goal

pub loop-name-preserved : goal.loop-name-preserved
loop-name-preserved c =
    let names = c.args.names.now in
    let i = c.loop-name.name-index in
    let before = c.loop-name.invariant.0 ∙ names_before names i c.loop-name-test.true in (
      ap (λ n. n + 1) c.loop-name.invariant.0,
      rw (names_more names i c.name-item.result c.loop-name-test.true c.name-item.is)
          (c.in_ok-add.ensures.added _ before c.loop-name.invariant.1),
    )
