-- One more slot is passed: its name is written, or it is empty.
use Rattle.std.proofs.Common.{rules, false, ◌≡◌, ◌++◌, arith, sym, ◌∙◌, ◌<◌, take, get_or, codes}
use Rattle.std.proofs.Common.{take_all}
use Rattle.interpolator_render.specs.declared.view.Trait.TheVariants.{Binary}
use Rattle.interpolator_eval.specs.Slots.{slots_of}
use Rattle.interpolator_eval.specs.SlotNames.{slot_name, is_filled, slot_order, filled_names}
use Rattle.interpolator_eval.proofs.SlotNameLemmas.{names_of, one_more, none_more, no_name-more}
use Rattle.interpolator_eval.proofs.SlotNameLemmas.{no_name, opened, name_written, written_after}
use Rattle.interpolator_eval.proofs.SlotNameLemmas.{closed}
use Rattle.interpolator_eval.proofs.slot_names.FormattableDebug.fmt.Goals as goal
use Rattle.interpolator_eval.proofs.slot_names.FormattableDebug.fmt.Goals.{then-has+in_ok-write_name}
use Rattle.interpolator_eval.proofs.slot_names.FormattableDebug.fmt.Goals.{else-has}

pub loop-slot-preserved : goal.loop-slot-preserved
loop-slot-preserved g c =
    let filled = is_filled (slots_of c.args.self.now) in
    let index = c.loop-slot.slot-index in
    let names = names_of filled (take index slot_order) in
    let name = slot_name (get_or slot_order index Binary) in
    let below : index < 9 = omega arith in
    let before = c.loop-slot.invariant in
    elim c.if-has.branch [
      | then-has+in_ok-write_name w ↦
          let more = one_more filled index below (sym c.has.ensures ∙ w.if-has.true) in (
            rw (more, w.is_first-is) (sym (no_name-more names name)),
            λ flush. rw (more, w.f-is) (name_written g.W.Write.write_str_gives c.args.f.now
                c.loop-slot.f w.write_name.new.f
                (codes "Formattable") names name w.name_of.result.now c.loop-slot.is_first before.0
                w.name_of.ensures
                (before.1 flush) w.in_ok-write_name.ensures),
          )
      | else-has w ↦
          let more = none_more filled index below (sym c.has.ensures ∙ w.if-has.false) in
          (rw (more, w.is_first-is) before.0, λ flush. rw (more, w.f-is) (before.1 flush))
    ]

-- the slots were all passed, and a name was written
pub returns-else-is_first-clause-styled : goal.returns-else-is_first-clause-styled
returns-else-is_first-clause-styled g c = λ flush ok.
    let front = codes "Formattable" in
    let names = filled_names (slots_of c.args.self.now) in
    let passed : take c.loop-slot.slot-index slot_order ≡ slot_order =
    take_all c.loop-slot.slot-index slot_order (omega (arith, c.loop-slot-test.false)) in
    let named : false ≡ no_name names = search rules in
    written_after g.W.Write.write_str_gives _ c.loop-slot.f _ (front ++ opened names) _ _
    (search rules) (search rules) (closed front names (sym named))
