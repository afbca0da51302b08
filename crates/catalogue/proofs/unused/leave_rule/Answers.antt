use Rattle.std.proofs.Common.{ap}
use Rattle.std.specs.Option.{option_map}
use Rattle.catalogue.proofs.UnusedLemmas.{broken_rule, no_rule}
use Rattle.catalogue.proofs.unused.leave_rule.Goals as goal

pub returns-in_default-clause-left : goal.returns-in_default-clause-left
returns-in_default-clause-left c =
    no_rule _ _ (ap (option_map (λ text. text.now)) c.in_default.is)

pub returns-in-Err-Broken-clause-left : goal.returns-in-Err-Broken-clause-left
returns-in-Err-Broken-clause-left c =
    broken_rule _ c.in-Some.rule.now _ _ (ap (option_map (λ text. text.now)) c.in-Some.is)
    (rw c.in-Err-Broken.field-0-is at c.in-Err-Broken.ensures.exact)
