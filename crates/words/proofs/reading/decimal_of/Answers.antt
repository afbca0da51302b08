use Rattle.interpolator.specs.DecimalTexts.{Spells as IsDecimal}
use Rattle.words.proofs.PartLemmas.{parsed_alone}
use Rattle.words.proofs.reading.decimal_of.Goals as goal

pub returns : goal.returns
returns c = rw c.ok.ensures.value
    (parsed_alone (IsDecimal c.args.text.now) c.parse.result c.parse.ensures.spelled)
