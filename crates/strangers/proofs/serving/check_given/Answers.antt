use Rattle.strangers.proofs.ValueLemmas.{on_ok}
use Rattle.strangers.proofs.serving.check_given.Goals as goal

pub returns-in-One-clause-range : goal.returns-in-One-clause-range
returns-in-One-clause-range c =
    rw (c.in-One.is) (on_ok c.check_value.result c.characters_of.ensures.range)

pub returns-in_ok-check_value-in-Many-clause-range :
    goal.returns-in_ok-check_value-in-Many-clause-range
returns-in_ok-check_value-in-Many-clause-range c =
    rw (c.in-Many.is) (on_ok c.check_value-in-Many-2.result
    (rw (c.as_slice.ensures.value) at c.longest_of.ensures.range))
