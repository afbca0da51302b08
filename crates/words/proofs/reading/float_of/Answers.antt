use Rattle.words.proofs.PartLemmas.{float_alone}
use Rattle.words.proofs.reading.float_of.Goals as goal

pub returns : goal.returns
returns c = rw c.ok.ensures.value
    (float_alone c.args.text.now c.parse.result c.parse.ensures.value.1)
