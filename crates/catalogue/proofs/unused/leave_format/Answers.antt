use Rattle.std.proofs.Common.{◌∙◌, sym}
use Rattle.catalogue.proofs.UnusedLemmas.{broken_format}
use Rattle.catalogue.proofs.unused.leave_format.Goals as goal

pub returns-in-Err-clause-left : goal.returns-in-Err-clause-left
returns-in-Err-clause-left c =
    broken_format _ _ _ (sym c.in_ok-template.ensures.format ∙ c.in-Err.is)
