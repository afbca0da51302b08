use Rattle.std.proofs.{Common.arith, Common.string_bytes, lemmas.Grind.common_steps}
use Rattle.records.proofs.QuoteLemmas.{never_closed, past_quotes, to_quote}
use Rattle.records.proofs.ScanLemmas.{utf8_after, utf8_behind}
use Rattle.records.proofs.quoted.undoubled.Goals as goal

pub returns-in-None : goal.returns-in-None
returns-in-None c =
    let so_far = to_quote c.args.text.now (string_bytes c.loop-front.field) c.in-Some.front.now
    c.in-Some.after.now c.in-Some.ensures.cases.1
    (rw c.in-Some.ensures.cases.0 at c.loop-front.invariant.1) in
    grind (arith, common_steps, so_far)

pub loop-front-preserved : goal.loop-front-preserved
loop-front-preserved c =
    let so_far = past_quotes c.args.text.now (string_bytes c.loop-front.field)
    c.in-Some.front.now c.in-Some.after.now c.in-Some.ensures.cases.1 c.in-Some-strip.next.now
    c.in-Some-strip.ensures.cases
    (rw c.in-Some.ensures.cases.0 at c.loop-front.invariant.1) in (
      utf8_after c.in-Some.after.now c.in-Some-strip.next.now 34
          (utf8_behind c.loop-front.rest.now c.in-Some.front.now c.in-Some.after.now 34
          c.loop-front.invariant.0 c.in-Some.ensures.cases.0 (omega arith))
          c.in-Some-strip.ensures.cases (omega arith),
      grind (arith, common_steps, so_far),
    )

pub returns : goal.returns
returns c = never_closed c.args.text.now (string_bytes c.loop-front.field) c.loop-front.rest.now
    c.loop-front.invariant.1 c.in_default.ensures.cases
