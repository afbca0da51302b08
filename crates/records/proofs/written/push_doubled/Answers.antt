use Rattle.std.proofs.Common.{arith, string_bytes}
use Rattle.records.proofs.{ScanLemmas.utf8_behind, WrittenLemmas.past_one}
use Rattle.records.proofs.written.push_doubled.Goals as goal

pub loop-front-preserved : goal.loop-front-preserved
loop-front-preserved c = (
  utf8_behind c.loop-front.rest.now c.in-Some.front.now c.in-Some.after.now 34
      c.loop-front.invariant.0 c.in-Some.ensures.cases.0 (omega arith),
  past_one _ (string_bytes c.loop-front.out) (string_bytes c.push_str.new.self)
      (string_bytes c.push_str-in-Some.new.self) c.in-Some.front.now c.in-Some.after.now
      c.loop-front.rest.now c.in-Some.ensures.cases.1 c.in-Some.ensures.cases.0
      c.in_ok-push_str.ensures.bytes c.in_ok-push_str-2.ensures.bytes c.loop-front.invariant.1,
)
