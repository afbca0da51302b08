use Rattle.po.proofs.EntryLemmas.{entries_once, never_both}
use Rattle.po.proofs.laws.tokens_are_one_list_of_entries.Goals as goal

pub returns-clause-once : goal.returns-clause-once
returns-clause-once c = λ end tokens entries others one other.
    entries_once end tokens entries others one other

pub returns-clause-not_both : goal.returns-clause-not_both
returns-clause-not_both c = λ end tokens entries fault has broken.
    never_both end tokens entries fault has broken
