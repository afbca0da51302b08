-- The names so far are those of the filled slots among the slots passed.
use Rattle.std.proofs.Common.{◌≡◌, ◌++◌, take, codes}
use Rattle.std.specs.Fmt.{HasWrittenStyled, IsFlush}
use Rattle.interpolator_eval.specs.{Slots.slots_of, SlotNames.is_filled, SlotNames.slot_order}
use Rattle.interpolator_eval.proofs.SlotNameLemmas.{names_of, no_name, opened}
use Rattle.interpolator_eval.proofs.slot_names.FormattableDebug.fmt.Given as goal

abbrev pub invariant-loop-slot : goal.invariant-loop-slot
invariant-loop-slot g l =
    let names = names_of (is_filled (slots_of l.self)) (take l.slot-index slot_order) in
    (l.is_first ≡ no_name names)
    × (IsFlush l.fn.f
    → HasWrittenStyled g.W.Write.write_str_gives l.fn.f (codes "Formattable" ++ opened names) l.f)
