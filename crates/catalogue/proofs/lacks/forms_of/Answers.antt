use Rattle.std.proofs.{Common.ap, Common.map, Common.string_bytes, lemmas.List.at_drop_more}
use Rattle.plurals.specs.{Values.as_form, declared.expression.Form.Form}
use Rattle.catalogue.proofs.FormLemmas.{none_yet, once_more}
use Rattle.catalogue.proofs.lacks.forms_of.Goals as goal

pub loop-form-init : goal.loop-form-init
loop-form-init c = none_yet _ _ (ap (map string_bytes) c.new-found.ensures.items)

pub loop-form-preserved : goal.loop-form-preserved
loop-form-preserved c =
    let next = λ (d : Form). at_drop_more (map as_form) c.deref-form-items.result.now
    c.loop-form.form-index d c.loop-form-test.true in
    once_more _ _ _ _ _ _ (next _) c.loop-form.invariant
    (rw c.in_ok-text_of_form.ensures at c.in_ok-add_once.ensures)
