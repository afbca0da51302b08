use Rattle.words.proofs.PartLemmas.{bad_is_not_good, good_unless_bad}
use Rattle.ifmt.proofs.command.is_bad.Goals as goal

pub returns-in-Bad : goal.returns-in-Bad
returns-in-Bad c = bad_is_not_good c.args.word.now c.in-Bad.ensures

pub returns-in_default : goal.returns-in_default
returns-in_default c =
    good_unless_bad c.args.word.now c.classify.result c.classify.ensures c.in_default.not-Bad
