use Rattle.std.proofs.Common.{◌∙◌, map, sym}
use Rattle.interpolator.specs.Faults.{answer_of}
use Rattle.catalogue.specs.{Entries.held_by_entry, Messages.message_means}
use Rattle.catalogue.proofs.{AnswerLemmas.reported_fault, HeldLemmas.found_held}
use Rattle.catalogue.proofs.messages.said.Goals as goal

pub returns-clause-said : goal.returns-clause-said
returns-clause-said c =
    let t = reported_fault (answer_of c.in-Err.error)
    (message_means c.args.escape c.args.found.now.template
    (map held_by_entry c.args.entries.now)).fault
    c.in-Some.field-0 (sym c.in-Some.is ∙ c.place.ensures)
    (rw (
      c.as_slice.ensures.value,
      found_held c.in_ok-pairs.pairs.items,
      c.in_ok-pairs.ensures.pairs,
    ) at (rw c.in-Err.is at c.made.ensures.formats)) in
    record {
      f = t.0;
      faulty = t.2;
      says = rw (c.text-format.ensures.text, t.1) at c.in_ok-reported-in-Some.ensures.reported;
    }

pub returns-in-Ok-clause-said : goal.returns-in-Ok-clause-said
returns-in-Ok-clause-said c =
    rw (
      c.as_slice.ensures.value,
      found_held c.in_ok-pairs.pairs.items,
      c.in_ok-pairs.ensures.pairs,
    ) at (rw c.in-Ok.is at c.made.ensures.formats)
