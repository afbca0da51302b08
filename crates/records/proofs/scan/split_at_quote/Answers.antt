use Rattle.std.proofs.{Common.arith, lemmas.Str.Pattern.split_parts}
use Rattle.records.proofs.ScanLemmas.{at_quote}
use Rattle.records.proofs.scan.split_at_quote.Goals as goal

pub returns-clause-cases : goal.returns-clause-cases
returns-clause-cases c =
    at_quote c.args.text.now c.split_once.result
    (split_parts 34 c.args.text.now c.split_once.result c.split_once.ensures.cases (omega arith))
