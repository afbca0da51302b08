use Rattle.std.proofs.Common.{arith, lit<, None, Some}
use Rattle.std.proofs.lemmas.Str.Pattern.{split_once_first}
use Rattle.words.proofs.reading.classify.Goals as goal

pub returns-in-None : goal.returns-in-None
returns-in-None c assignment =
    let none = split_once_first 61 c.args.word.now None c.in-None.ensures.cases (lit< tt) in
    (λ means. absurd (omega (arith, none, means.0)), λ same. cc)

pub returns-in-Some : goal.returns-in-Some
returns-in-Some c assignment =
    let parts = split_once_first 61 c.args.word.now (Some (c.in-Some.left, c.in-Some.right))
    c.in-Some.ensures.cases (lit< tt) in
    let mean = rw (parts.1, parts.2) at (c.classify_parts.ensures assignment) in
    (λ means. mean.0 means.1, λ same. (parts.0, mean.1 same))
