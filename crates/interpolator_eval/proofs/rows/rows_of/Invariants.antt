use Rattle.std.proofs.Common.{◌≡◌, ◌++◌, map, drop}
use Rattle.interpolator_eval.specs.Slots.{slots_of, empty_slots, with_iter}
use Rattle.interpolator_eval.specs.Rows.{parts_to}
use Rattle.interpolator_eval.proofs.rows.rows_of.Given as goal

abbrev pub invariant-loop-end : goal.invariant-loop-end
invariant-loop-end g l =
    map slots_of l.rows.items ++ map (with_iter empty_slots) (parts_to (map slots_of l.items) l.start (drop l.end-index l.ends))
    ≡ map (with_iter empty_slots) (parts_to (map slots_of l.items) 0 l.ends)
