use Rattle.po.proofs.FileLemmas.{never_both, tokens_once}
use Rattle.po.proofs.laws.a_file_has_one_list_of_tokens.Goals as goal

pub returns-clause-once : goal.returns-clause-once
returns-clause-once c = λ text spots others one other. tokens_once text spots others one other

pub returns-clause-not_both : goal.returns-clause-not_both
returns-clause-not_both c = λ text spots fault has broken. never_both text spots fault has broken
