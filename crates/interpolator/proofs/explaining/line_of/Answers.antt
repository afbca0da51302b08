use Rattle.std.proofs.Common.{◌-◌, [], arith}
use Rattle.std.proofs.lemmas.Iterator.Consumers.{nth_from_yields_List}
use Rattle.std.proofs.lemmas.{Iterator.Splits.YieldsList-from_lines, Option.unwrap_or-slice_get}
use Rattle.std.specs.Str.Lines.{lines}
use Rattle.interpolator.proofs.explaining.line_of.Goals as goal

pub returns : goal.returns
returns c =
    let found = nth_from_yields_List c.nth.result c.nth.new.self (c.args.number - 1) c.nth.ensures.ran
    (YieldsList-from_lines c.args.text.now cc) in
    grind (arith, found, unwrap_or-slice_get (lines c.args.text.now) (c.args.number - 1) [])
