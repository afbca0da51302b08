use Rattle.interpolator_escapes.proofs.RecordLemmas.{line_read, last_read}
use Rattle.interpolator_escapes.proofs.laws.a_record_is_read_back.Goals as goal

pub returns-clause-line : goal.returns-clause-line
returns-clause-line c = line_read

pub returns-clause-last : goal.returns-clause-last
returns-clause-last c = last_read
