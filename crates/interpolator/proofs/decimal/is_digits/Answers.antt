use Rattle.std.proofs.Common.{◌≢◌, length, rules}
use Rattle.interpolator.proofs.DecimalDigitLemmas.{numeral_by_test}
use Rattle.interpolator.proofs.decimal.is_digits.Goals as goal

pub returns-then-not-is_empty : goal.returns-then-not-is_empty
returns-then-not-is_empty c =
    let some : length c.args.text.now ≢ 0 = search rules in
    numeral_by_test c.has_only_digits.result c.args.text.now some c.has_only_digits.ensures
