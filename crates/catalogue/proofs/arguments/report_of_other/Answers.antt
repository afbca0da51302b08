use Rattle.std.proofs.Common.{inr}
use Rattle.catalogue.proofs.arguments.report_of_other.Goals as goal

pub returns-clause-reported : goal.returns-clause-reported
returns-clause-reported c = inr (
  λ known. absurd (cc (c.is_known.ensures.1 known, c.if-is_known.false)),
  rw (c.as_str.ensures.value, c.in_ok-what.ensures, c.is_named.ensures) at
      c.in_ok-reported.ensures.reported,
)
