use Rattle.records.proofs.TableLemmas.{entries_once}
use Rattle.records.proofs.laws.a_table_is_read_in_one_way.Goals as goal

pub returns : goal.returns
returns c = λ separator from entries others one two.
    entries_once separator from entries others one two
