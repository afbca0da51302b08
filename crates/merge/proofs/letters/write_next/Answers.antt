use Rattle.std.proofs.Common.{Err, Ok, map, refl}
use Rattle.merge.specs.Columns.{kinds_in}
use Rattle.merge.proofs.TableLemmas.{fault_written, record_written}
use Rattle.records.specs.Spellings.{text_of}
use Rattle.merge.proofs.letters.write_next.Goals as goal

pub returns-in_ok-push_fault-in-Ok-Some-clause-ok :
    goal.returns-in_ok-push_fault-in-Ok-Some-clause-ok
returns-in_ok-push_fault-in-Ok-Some-clause-ok g c =
    let fields = map text_of c.next_record.new.fields.items in
    let trouble = c.in_ok-trouble-in-Ok-Some in (
      Ok (c.in-Ok-Some.line, fields),
      rw c.in-Ok-Some.field-0-is at c.in-Ok-Some.ensures.next,
      record_written c.args.letters.now (kinds_in c.args.frame.columns.now) c.args.writes
          c.args.faults.now.items c.push_fault.new.faults.items
          (g.W.TextWrite.written c.args.out.now).text
          (g.W.TextWrite.written c.write_record.new.out).text c.goes_on-goes.result
          c.in-Ok-Some.line fields trouble.trouble
          (rw c.as_slice.ensures.value at trouble.ensures.trouble)
          (rw c.as_slice.ensures.value at trouble.ensures.puts)
          c.in_ok-push_fault-in-Ok-Some.ensures
          (rw c.deref.ensures.value at c.goes_on-goes.ensures.on)
          c.goes_on-goes.ensures.off,
    )

pub returns-in_ok-push_broken-in-Err-Fault-clause-ok :
    goal.returns-in_ok-push_broken-in-Err-Fault-clause-ok
returns-in_ok-push_broken-in-Err-Fault-clause-ok g c = (
  Err c.in-Err-Fault.fault,
  (rw c.in-Err-Fault.field-0-is at c.in-Err-Fault.ensures.next).0,
  fault_written c.args.letters.now (kinds_in c.args.frame.columns.now) c.args.writes
      c.args.faults.now.items c.push_broken.new.faults.items _ _ c.in-Err-Fault.fault
      (let e = c.in-Err-Fault.fault-is in
      let found = c.in_ok-push_broken-in-Err-Fault.ensures in rw e at found) refl,
)
