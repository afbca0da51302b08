use Rattle.std.proofs.Common.{inl, inr, string_bytes, sym}
use Rattle.std.proofs.{lemmas.List.drop_more, lemmas.List.take_all, lemmas.List.Elements.All-more}
use Rattle.words.specs.Words.{IsGood}
use Rattle.ifmt.proofs.command.first_bad.Goals as goal

pub returns-then-is_bad : goal.returns-then-is_bad
returns-then-is_bad c = c.loop-word.invariant.bad _
    (rw (
      drop_more c.args.words.now c.loop-word.word-index c.word-item.result
          c.loop-word-test.true,
      ← c.word-item.is,
    )
    (inr (
      rw c.as_str-text.ensures.value at c.if-is_bad.ensures,
      sym c.as_str-text.ensures.value,
    )))

pub loop-word-preserved : goal.loop-word-preserved
loop-word-preserved c =
    let good = rw c.as_str-text.ensures.value at c.if-is_bad.ensures in record {
      good = All-more (λ word. IsGood (string_bytes word)) c.args.words.now
          c.loop-word.word-index c.word-item.result c.loop-word-test.true
          c.loop-word.invariant.good (rw (← c.word-item.is) good);
      bad = λ text h. c.loop-word.invariant.bad text
          (rw (
            drop_more c.args.words.now c.loop-word.word-index c.word-item.result
                c.loop-word-test.true,
            ← c.word-item.is,
          ) (inl (good, h)));
    }

pub returns : goal.returns
returns c = rw (take_all c.loop-word.word-index c.args.words.now c.loop-word-test.false)
    at c.loop-word.invariant.good
