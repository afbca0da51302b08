use Rattle.std.proofs.{Common.arith, Common.inr, lemmas.Str.Pattern.strip_suffix_char}
use Rattle.records.proofs.head.without_line_end.Goals as goal

pub returns-in-None-strip_suffix : goal.returns-in-None-strip_suffix
returns-in-None-strip_suffix c =
    let feed = strip_suffix_char 10 c.args.text.now c.strip_suffix.result
    c.strip_suffix.ensures.cases (omega arith) in
    let other = strip_suffix_char 13 c.in-Some.line.now c.strip_suffix-in-Some.result
    c.strip_suffix-in-Some.ensures.cases (omega arith) in
    let is = rw c.in-Some.is at feed in
    let none = rw c.in-None-strip_suffix.is at other in
    inr (is, none)
