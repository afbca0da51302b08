use Rattle.std.proofs.Common.{◌∙◌, sym}
use Rattle.std.proofs.{lemmas.List.Elements.All-more, lemmas.Result.err_from_is_err_and}
use Rattle.strangers.proofs.ValueLemmas.{words_next}
use Rattle.strangers.specs.Values.{AreInRange}
use Rattle.strangers.proofs.serving.check_words.Goals as goal

pub returns-in_err-check_given-clause-why : goal.returns-in_err-check_given-clause-why
returns-in_err-check_given-clause-why c =
    let err = err_from_is_err_and c.from_residual.result c.from_residual.ensures.1 in
    let next = words_next c.args.limits.now c.args.words.now c.loop-word.word-index
    c.word-item.result c.loop-word-test.true c.word-item.is in
    rw (err.1, err.2) (sym (rw (← c.in_err-check_given.ensures.why) at next)
    ∙ c.loop-word.invariant.why)

pub loop-word-preserved : goal.loop-word-preserved
loop-word-preserved c =
    let next = words_next c.args.limits.now c.args.words.now c.loop-word.word-index
    c.word-item.result c.loop-word-test.true c.word-item.is in record {
      why = sym (rw (← c.in_ok-check_given.ensures.why) at next) ∙ c.loop-word.invariant.why;
      range = All-more (λ word. AreInRange word.given) c.args.words.now c.loop-word.word-index
          c.word-item.result c.loop-word-test.true c.loop-word.invariant.range
          (rw (← c.word-item.is) c.in_ok-check_given.ensures.range);
    }
