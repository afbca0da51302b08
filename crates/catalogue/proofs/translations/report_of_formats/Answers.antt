use Rattle.std.proofs.Common.{string_bytes}
use Rattle.catalogue.proofs.translations.report_of_formats.Goals as goal

pub returns-clause-reported : goal.returns-clause-reported
returns-clause-reported c = (
  string_bytes c.push_str.new.self,
  string_bytes c.in_ok-last.last,
  (
    string_bytes c.in_ok-reported.reported,
    string_bytes c.in_ok-more.more,
    rw c.in_ok-id.ensures.format at c.in_ok-reported.ensures.reported,
    rw c.in_ok-plural.ensures.format at c.in_ok-more.ensures.reported,
    rw c.as_str.ensures.value at c.in_ok-push_str.ensures.bytes,
  ),
  c.in_ok-last.ensures.reported c.in_ok-id.ensures.format c.in_ok-plural.ensures.format,
  rw c.as_str-2.ensures.value at c.in_ok-push_str-2.ensures.bytes,
)
