use Rattle.std.specs.Str.{chars}
use Rattle.interpolator.specs.Places.{outermost}
use Rattle.catalogue.specs.Examples.{view_shows}
use Rattle.catalogue.proofs.OwnLemmas.{own_faults}
use Rattle.catalogue.proofs.examples.own_faults.Goals as goal

pub returns-clause-all : goal.returns-clause-all
returns-clause-all c =
    let format = outermost (chars c.args.template.now) in
    rw (c.own_of.ensures, c.in_ok-errors.ensures.all) (own_faults view_shows _ format
    (c.a_fault_of_its_own_is_that_of_some_piece.ensures.of_text format))
