use Rattle.std.proofs.Common.{◌++◌, ◌∙◌, append_assoc}
use Rattle.records.proofs.PlaceLemmas.{IsRest, rest_rest}
use Rattle.records.proofs.reader.Reader.fault_at.Goals as goal

pub before-requires : goal.before-requires
before-requires c = (c.requires.opening ++ c.requires.front, rw append_assoc c.requires.is)

pub go_on-requires : goal.go_on-requires
go_on-requires c =
    let here : IsRest c.args.self.now.rest.now c.args.tail.now =
    (c.requires.opening ++ c.requires.front, rw append_assoc c.requires.is) in
    rest_rest c.args.self.now.rest.now c.args.tail.now c.after_fault.result.now here
    c.after_fault.ensures.rest

pub returns-clause-gives : goal.returns-clause-gives
returns-clause-gives c = record {
  before = c.before-2.result.now;
  tail = c.args.tail.now;
  is = c.before-2.ensures;
  breaks = c.requires;
  placed = rw c.as_bytes.ensures.value at c.place_after-place.ensures;
  goes_on = c.go_on.ensures.rest ∙ c.after_fault.ensures.is;
  front = c.go_on.ensures.passes.0;
  passes = c.go_on.ensures.passes.1;
}
