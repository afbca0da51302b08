use Rattle.catalogue.specs.Files.{as_line}
use Rattle.catalogue.proofs.po_reports.reported_at_byte.Goals as goal

pub returns-clause-reported : goal.returns-clause-reported
returns-clause-reported c = record {
  byte = c.args.place;
  line = as_line c.line_at-place.result.0;
  place = c.line_at-place.result.1;
  named = c.line_at-place.ensures.named;
  numbered = c.line_at-place.ensures.numbered;
  says = c.in_ok-reported.ensures.reported;
}
