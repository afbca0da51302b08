use Rattle.merge.proofs.NameLemmas.{knows_more}
use Rattle.merge.proofs.table.push_repeat.Goals as goal

pub returns-then-is_none-clause-seen : goal.returns-then-is_none-clause-seen
returns-then-is_none-clause-seen c = λ names knows.
    knows_more c.args.seen.now c.insert.new.self names c.args.name.now c.args.before
    c.in_ok-insert.ensures.updates knows

pub returns-clause-seen : goal.returns-clause-seen
returns-clause-seen c = λ names knows.
    knows_more c.args.seen.now c.insert.new.self names c.args.name.now c.args.before
    c.in_ok-insert.ensures.updates knows
