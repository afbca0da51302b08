use Rattle.std.proofs.Common.{arith, ◌<◌, length}
use Rattle.std.proofs.lemmas.Str.{IsCharBoundary-after_ascii}
use Rattle.po.proofs.string.octal_at.Goals as goal

pub split_at-requires : goal.split_at-requires
split_at-requires c =
    let long : 2 < length c.args.text.now = omega arith in
    IsCharBoundary-after_ascii c.args.text.now 2 c.utf8.text long
    (rw c.as_bytes.ensures.value at c.in_ok-byte.ensures.ascii.1)
