use Rattle.std.proofs.{Common.rules, Common.arith, lemmas.Str.len_utf8_bounds}
use Rattle.std.specs.Char.{IsScalar}
use Rattle.interpolator_render.proofs.CopyLemmas.{IsUtf8-copies}
use Rattle.interpolator_render.proofs.copies.put_amid_copies.Goals as goal

pub shared_whole_as_slice-as_flattened : goal.shared_whole_as_slice-as_flattened
shared_whole_as_slice-as_flattened g c = grind (arith, len_utf8_bounds)

pub from_utf8_unchecked-requires : goal.from_utf8_unchecked-requires
from_utf8_unchecked-requires g c =
    let s : IsScalar c.args.c = search rules in
    rw (c.as_flattened.ensures.value, c.requires.bytes) (IsUtf8-copies 64 c.args.c s)

pub put_amid-requires : goal.put_amid-requires
put_amid-requires g c = grind arith
