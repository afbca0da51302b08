use Rattle.std.proofs.Common.{map}
use Rattle.records.proofs.PlaceLemmas.{record_rest}
use Rattle.records.specs.Spellings.{text_of}
use Rattle.records.proofs.reader.Reader.next_record.Goals as goal

pub go_on-requires : goal.go_on-requires
go_on-requires c = record_rest c.args.self.now.separator
    (map text_of c.take_record.new.fields.items) c.args.self.now.rest.now c.in-Ok.rest.now
    c.in-Ok.ensures
