use Rattle.std.proofs.Common.{◌≢◌, ◌∙◌, Ok, length, lit<, rules}
use Rattle.std.proofs.lemmas.Iterator.Consumers.{map_from_collect}
use Rattle.std.proofs.lemmas.Iterator.Splits.{YieldsList-from_str_split}
use Rattle.words.proofs.ItemLemmas.{items_joined, some_items}
use Rattle.words.proofs.reading.items.Goals as goal

pub returns-clause-ok : goal.returns-clause-ok
returns-clause-ok c =
    let some : length c.args.text.now ≢ 0 = search rules in
    map_from_collect {E = Unit {0}} (Ok c.in_ok-items.items) c.in_ok-items.ensures.ran
    (YieldsList-from_str_split 44 c.args.text.now (lit< tt) c.split.ensures.text
    c.split.ensures.has_more c.split.ensures.pattern)
    ∙ some_items c.args.text.now some

pub returns-clause-joined : goal.returns-clause-joined
returns-clause-joined c = rw (returns-clause-ok c) (items_joined c.args.text.now)
