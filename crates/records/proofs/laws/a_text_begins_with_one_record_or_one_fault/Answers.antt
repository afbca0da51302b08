use Rattle.records.proofs.TableLemmas.{begins_once, breaks_once, never_both}
use Rattle.records.proofs.laws.a_text_begins_with_one_record_or_one_fault.Goals as goal

pub returns-clause-record_once : goal.returns-clause-record_once
returns-clause-record_once c = λ separator fields others text rest end b d.
    begins_once separator fields others text rest end b d

pub returns-clause-fault_once : goal.returns-clause-fault_once
returns-clause-fault_once c = λ separator problem other text tail end b d.
    breaks_once separator problem other text tail end b d

pub returns-clause-not_both : goal.returns-clause-not_both
returns-clause-not_both c = λ separator fields problem text rest tail b d.
    never_both separator fields problem text rest tail b d
