use Rattle.std.proofs.Common.{arith, subst, IsUtf8, take_all}
use Rattle.std.proofs.lemmas.Str.{IsUtf8-string_bytes}
use Rattle.interpolator_render.proofs.text_buffer.TextBuffer.from_string.Goals as goal

pub invariant_of-result : goal.invariant_of-result
invariant_of-result c = record {
  within = grind arith;
  utf8 = subst IsUtf8 (grind (arith, take_all)) (IsUtf8-string_bytes c.args.text);
  none_ready = λ set. grind arith;
}
