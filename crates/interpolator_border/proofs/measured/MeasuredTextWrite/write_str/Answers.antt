use Rattle.std.proofs.Common.{Err, Ok, append-nil, arith}
use Rattle.interpolator_border.proofs.MeasureLemmas.{keeps_before, no_more, one_empty}
use Rattle.interpolator_border.proofs.measured.MeasuredTextWrite.write_str.Goals as goal

pub invariant_of-self : goal.invariant_of-self
invariant_of-self c = record {
  counted = λ some. grind (arith, append-nil, no_more);
  whole = λ none. grind arith;
  over = λ some. grind arith;
  silent = λ set. grind arith;
}

pub returns-in-Ok : goal.returns-in-Ok
returns-in-Ok c = let old = c.args.self.now in
    keeps_before old.kept c.write_str.new.self _ old.rest.text old.refused (Ok tt)
    c.in-Ok.ensures.written tt
    (one_empty old.count old.left old.rest.text c.args.text.now old.whole old.over
    c.if-text-self.false)
    (λ set. no_more old.left c.args.text.now c.if-text-self.false (old.silent set))

pub returns-in-Err : goal.returns-in-Err
returns-in-Err c = let old = c.args.self.now in
    keeps_before old.kept c.write_str.new.self _ old.rest.text old.refused
    (Err c.in-Err.refusal) c.in-Err.ensures.written c.in-Err.ensures.whole
    (one_empty old.count old.left old.rest.text c.args.text.now old.whole old.over
    c.if-text-self.false)
    (λ set. no_more old.left c.args.text.now c.if-text-self.false (old.silent set))
