use Rattle.std.proofs.Common.{string_bytes}
use Rattle.catalogue.proofs.translations.report_of_text.Goals as goal

pub returns-clause-reported : goal.returns-clause-reported
returns-clause-reported c = (
  string_bytes c.in_ok-reported.reported,
  string_bytes c.in_ok-more.more,
  rw c.in_ok-template.ensures.format at c.in_ok-reported.ensures.reported,
  rw (c.as_slice.ensures.value, c.in_ok-found.ensures.arguments, c.in_ok-template.ensures.format)
      at c.in_ok-more.ensures.reported,
  rw c.as_str.ensures.value at c.in_ok-push_str.ensures.bytes,
)
