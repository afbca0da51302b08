use Rattle.std.proofs.Common.{ap, string_bytes}
use Rattle.words.specs.Items.{texts_of}
use Rattle.catalogue.specs.Unused.{names_of}
use Rattle.catalogue.proofs.{FirstLemmas.drop_item, FormLemmas.none_yet, UnusedLemmas.name_more}
use Rattle.catalogue.proofs.unused.names_of.Goals as goal

pub loop-word-init : goal.loop-word-init
loop-word-init c = none_yet _ _ (ap texts_of c.new-names.ensures.items)

pub loop-word-preserved : goal.loop-word-preserved
loop-word-preserved c = name_more _ _ _ _ _ _
    (ap names_of (drop_item string_bytes c.args.words.now c.loop-word.word-index
    c.word-item.result c.loop-word-test.true c.word-item.is)) c.loop-word.invariant
    (rw (c.name_of.ensures, c.as_str.ensures.value) at c.in_ok-add_name.ensures)
