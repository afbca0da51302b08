use Rattle.std.proofs.Common.{◌≡◌, ◌+◌, arith, drop, refl}
use Rattle.std.proofs.lemmas.List.{at_drop_more}
use Rattle.catalogue.specs.Files.{numbered}
use Rattle.words.specs.Items.{texts_of}
use Rattle.catalogue.proofs.LineLemmas.{one_more_line}
use Rattle.catalogue.proofs.files.numbered.Goals as goal

pub split_at-requires : goal.split_at-requires
split_at-requires c = omega (arith, c.loop-text.invariant.counted, c.loop-text-test.true)

pub loop-text-preserved : goal.loop-text-preserved
loop-text-preserved c =
    let so_far = c.loop-text.invariant in
    let file = c.args.file.now in
    let n = c.loop-text.number + 1 in
    let texts = c.args.texts.now in
    let i = c.loop-text.text-index in
    let rest : c.split_at.result.1.now ≡ drop (i + 1) texts =
    rw so_far.counted at c.split_at.ensures.back in
    record {
      counted = omega (arith, so_far.counted);
      lines = one_more_line file n c.loop-text.lines.items c.push.new.self.items _
          (drop i texts) (drop (i + 1) texts) c.split_at.result.1.now _ _
          (at_drop_more (λ l. numbered file n (texts_of l)) texts i
          (record { ref_ptr = (0, 0); now = _ }) c.loop-text-test.true)
          so_far.lines c.in_ok-push.ensures.items rest refl;
    }
