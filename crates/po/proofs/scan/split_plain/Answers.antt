use Rattle.po.proofs.ScanLemmas.{plain_boundary, plain_front, plain_stop}
use Rattle.po.proofs.scan.split_plain.Goals as goal

pub split_at-requires : goal.split_at-requires
split_at-requires c =
    rw (c.plain_len.ensures, c.as_bytes.ensures.value) (plain_boundary c.args.text.now)

pub returns-clause-plain : goal.returns-clause-plain
returns-clause-plain c =
    rw (c.split_at.ensures.front, c.plain_len.ensures, c.as_bytes.ensures.value)
    (plain_front c.args.text.now)

pub returns-clause-stopped : goal.returns-clause-stopped
returns-clause-stopped c =
    rw (c.split_at.ensures.back, c.plain_len.ensures, c.as_bytes.ensures.value)
    (plain_stop c.args.text.now)
