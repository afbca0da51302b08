use Rattle.catalogue.proofs.HeldLemmas.{found_held}
use Rattle.catalogue.proofs.examples.faults_with.Goals as goal

pub returns-clause-all : goal.returns-clause-all
returns-clause-all c =
    let held = rw (
      c.as_slice-2.ensures.value,
      c.in_ok-entries.ensures.entries,
      c.as_slice.ensures.value,
      c.in_ok-examples.ensures.examples,
    ) at c.in_ok-pairs.ensures.pairs in
    rw (c.deref.ensures.value, found_held c.in_ok-pairs.pairs.items, held) at
    c.template_faults.ensures.all
