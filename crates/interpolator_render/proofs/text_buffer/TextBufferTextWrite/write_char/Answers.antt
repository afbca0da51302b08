use Rattle.std.proofs.Common.{arith, length-set}
use Rattle.std.proofs.lemmas.Str.{chars-append, encode_ascii, IsUtf8-encode}
use Rattle.std.proofs.{lemmas.Bool.Decides.nat_tests, lemmas.List.take_more_set}
use Rattle.interpolator_render.proofs.{PlaceLemmas.holds_more, WrittenLemmas.chars-encode}
use Rattle.interpolator_render.proofs.text_buffer.TextBufferTextWrite.write_char.Goals as goal

pub invariant_of-self : goal.invariant_of-self
invariant_of-self c =
    holds_more _ _ _ _ _ _ _ c.self.invariant (IsUtf8-encode c.args.c c.ranges.c.0)
    (grind (arith, nat_tests, encode_ascii, take_more_set)) (grind (arith, length-set))
    (λ set. grind arith)

pub returns-then-self-len-clause-written : goal.returns-then-self-len-clause-written
returns-then-self-len-clause-written c =
    let one = chars-encode c.args.c c.ranges.c.0 in
    let row = c.self.inside in
    let front = take_more_set row.bytes.items row.len c.args.c (grind arith) in
    grind (arith, nat_tests, encode_ascii, chars-append)
