use Rattle.std.specs.Str.{chars}
use Rattle.interpolator_eval.specs.Meaning.Environments.{environment}
use Rattle.interpolator_syntax.specs.Places.{outermost}
use Rattle.interpolator_border.specs.{Checks.row_faults, Fields.found_in}
use Rattle.interpolator_border.proofs.CheckLemmas.{first_reported, none_first}
use Rattle.interpolator_border.proofs.checking.check.Goals as goal

pub returns-in-Some-clause-answer : goal.returns-in-Some-clause-answer
returns-in-Some-clause-answer c =
    first_reported c.args.row.fields.now c.args.row.items.now c.args.format.now c.in-Ok.found.items
    c.in-Ok.ensures.0 c.in-Ok.ensures.1 c.reported_fault.result c.args.room.now c.reported_fault.new.room
    c.in-Some.error.now (rw c.deref.ensures.value at c.in-Some.ensures) c.reported_fault.ensures.fault

pub returns-in-Ok-clause-never_fails : goal.returns-in-Ok-clause-never_fails
returns-in-Ok-clause-never_fails c = λ _.
    let w = c.in-Ok.ensures.1 in
    let none = (rw c.deref.ensures.value at c.in-None.ensures) in
    record {
      trees = w.trees;
      are = w.are;
      never = λ row row_items row_trees are alike.
          c.a_checked_format_means_no_fault.ensures.fault (found_in c.args.row.fields.now w.trees)
          (environment (found_in row row_trees)) (outermost (chars c.args.format.now))
          (none_first _ (none (row_faults c.args.row.fields.now w.trees c.args.format.now) w.holds)) alike;
    }
