use Rattle.std.proofs.Common.{◌∙◌, ap, map, sym}
use Rattle.std.proofs.lemmas.Result.{IfErr-weaker, IfOk-weaker}
use Rattle.strangers.specs.Values.{entry_named}
use Rattle.strangers.proofs.WithinLemmas.{GiveWords, rejected, served_whole}
use Rattle.strangers.proofs.serving.served.Goals as goal

pub returns-clause-ok : goal.returns-clause-ok
returns-clause-ok c =
    let given : GiveWords c.args.words.now c.in_ok-pairs.pairs.items =
    c.in_ok-pairs.ensures.ok ∙ ap (λ entries. map entry_named entries) c.as_slice.ensures.value
    ∙ c.in_ok-entries.ensures.ok in
    let law = c.a_format_costs_no_more_than_it_is_said_to.ensures in
    let limits = c.args.allowed.now.values in
    IfOk-weaker c.decided.result _ _ (λ text. served_whole c.args.allowed.now c.args.format.now
    c.args.words.now c.in_ok-pairs.pairs.items given (λ e a within. (
      law.characters limits e a within,
      law.pieces limits e a within,
      law.buffered limits e a within,
    )) _ c.in_ok-check_words.ensures.range (sym c.in_ok-check_words.ensures.why))
    (rw (c.in_ok-template.ensures.template, c.as_slice-2.ensures.value) at c.decided.ensures.ok)

pub returns-clause-err : goal.returns-clause-err
returns-clause-err c =
    let given : GiveWords c.args.words.now c.in_ok-pairs.pairs.items =
    c.in_ok-pairs.ensures.ok ∙ ap (λ entries. map entry_named entries) c.as_slice.ensures.value
    ∙ c.in_ok-entries.ensures.ok in
    IfErr-weaker c.decided.result _ _ (λ refused. rejected c.args.allowed.now c.args.format.now
    c.args.words.now c.in_ok-pairs.pairs.items given refused (sym c.in_ok-check_words.ensures.why))
    (rw (c.in_ok-template.ensures.template, c.as_slice-2.ensures.value) at c.decided.ensures.err)
