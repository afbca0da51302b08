use Rattle.std.proofs.Common.{string_bytes}
use Rattle.catalogue.proofs.translations.report_of_format.Goals as goal

pub returns-clause-reported : goal.returns-clause-reported
returns-clause-reported c = (
  string_bytes c.in_ok-reported.reported,
  string_bytes c.in_ok-more.more,
  rw (c.as_slice.ensures.value, c.in_ok-errors.ensures.all) at c.in_ok-reported.ensures.reported,
  rw c.text.ensures.text at c.in_ok-more.ensures.reported,
  rw c.as_str.ensures.value at c.in_ok-push_str.ensures.bytes,
)
