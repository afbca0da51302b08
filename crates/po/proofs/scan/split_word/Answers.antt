use Rattle.po.proofs.ScanLemmas.{word_boundary}
use Rattle.po.proofs.scan.split_word.Goals as goal

pub split_at-requires : goal.split_at-requires
split_at-requires c =
    rw (c.word_len.ensures, c.as_bytes.ensures.value) (word_boundary c.args.text.now)
