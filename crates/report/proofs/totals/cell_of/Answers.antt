use Rattle.std.proofs.Common.{◌≡◌, Err, arith}
use Rattle.interpolator_syntax.specs.declared.error.NumberError.TheVariants.{InvalidDigit}
use Rattle.report.proofs.TotalLemmas.{no_digit}
use Rattle.report.proofs.totals.cell_of.Goals as goal

pub returns-in-Err-InvalidDigit : goal.returns-in-Err-InvalidDigit
returns-in-Err-InvalidDigit c =
    let read : c.parse.result ≡ Err InvalidDigit = grind arith in
    no_digit c.parse.result c.args.entry.now c.parse.ensures.err read
