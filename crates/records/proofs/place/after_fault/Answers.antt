use Rattle.std.proofs.Common.{append-nil, refl}
use Rattle.records.proofs.place.after_fault.Goals as goal

pub returns-in-Unclosed-clause-rest : goal.returns-in-Unclosed-clause-rest
returns-in-Unclosed-clause-rest c = (c.args.tail.now, rw append-nil refl)
