use Rattle.std.proofs.Common.{◌≡◌, true, rules, ◌∙◌}
use Rattle.plurals.specs.Tokens.{is_numeral}
use Rattle.plurals.proofs.TokenLemmas.{number_parsed}
use Rattle.plurals.proofs.numeral.number_in.Goals as goal

pub returns : goal.returns
returns c =
    let is : is_numeral c.args.text.now ≡ true = search rules in
    c.ok.ensures.value ∙ number_parsed c.args.text.now _ is c.parse.ensures.value.0
