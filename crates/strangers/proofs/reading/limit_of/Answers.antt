use Rattle.std.proofs.Common.{◌∙◌}
use Rattle.strangers.proofs.ReadingLemmas.{limit_parsed}
use Rattle.strangers.proofs.reading.limit_of.Goals as goal

pub returns : goal.returns
returns c = c.ok.ensures.value ∙ limit_parsed c.args.text.now c.parse.result c.parse.ensures.value.0
