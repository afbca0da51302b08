use Rattle.std.proofs.Common.{Err, Ok}
use Rattle.records.proofs.EntryLemmas.{fault_kept, record_kept}
use Rattle.records.specs.{Tables.as_read, declared.table.Record.Record}
use Rattle.records.proofs.table.read_next.Goals as goal

pub returns-in-Ok-Some-clause-adds : goal.returns-in-Ok-Some-clause-adds
returns-in-Ok-Some-clause-adds c =
    let kept : Record =
    record { line = c.in-Ok-Some.line; fields = c.next_record.new.fields } in (
      Ok (as_read kept),
      rw c.in-Ok-Some.field-0-is at c.in-Ok-Some.ensures.next,
      λ entries so_far. record_kept entries c.args.records.now.items c.push.new.self.items
          c.args.faults.now.items so_far kept c.in_ok-push-in-Ok-Some.ensures.items,
    )

pub returns-in-Err-Fault-clause-adds : goal.returns-in-Err-Fault-clause-adds
returns-in-Err-Fault-clause-adds c = (
  Err c.in-Err-Fault.fault,
  (rw c.in-Err-Fault.field-0-is at c.in-Err-Fault.ensures.next).0,
  λ entries so_far. fault_kept entries c.args.records.now.items c.args.records.now.items
      c.args.faults.now.items so_far c.in-Err-Fault.fault c.push-in-Err-Fault.new.self.items
      c.in_ok-push-in-Err-Fault.ensures.items,
)
