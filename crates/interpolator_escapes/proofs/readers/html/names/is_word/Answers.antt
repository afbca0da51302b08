use Rattle.std.proofs.Common.{arith, ◌≡◌}
use Rattle.std.proofs.{lemmas.List.take_all, lemmas.Slice.Eq.bytes_eq-Decides}
use Rattle.interpolator_escapes.proofs.readers.html.names.is_word.Goals as goal

pub returns : goal.returns
returns c =
    let same : c.args.name.now ≡ c.args.word.now = grind (arith, take_all, c.loop-i.invariant) in
    grind (arith, bytes_eq-Decides, same)
