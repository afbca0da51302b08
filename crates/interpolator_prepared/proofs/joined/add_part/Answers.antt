use Rattle.std.proofs.Common.{◌≡◌, ◌-◌, arith, length}
use Rattle.std.proofs.lemmas.Str.{IsUtf8-string_bytes}
use Rattle.std.specs.{Prelude.string_bytes, Str.chars}
use Rattle.interpolator_syntax.specs.Places.{size}
use Rattle.interpolator_syntax.proofs.CharacterLemmas.{size-chars}
use Rattle.interpolator_prepared.proofs.JoinedLemmas.{part_added}
use Rattle.interpolator_prepared.proofs.joined.add_part.Goals as goal

pub returns : goal.returns
returns c = record {
  added = λ cs placed is h.
      let more = c.cut.result.now in
      let text = c.cut.ensures.text in
      let same : chars more ≡ cs = cc in
      let long = c.cut.ensures.size in
      let sized : length more ≡ c.args.to - c.args.from = omega (arith, long) in
      let fit : size cs ≡ c.args.to - c.args.from =
      rw (← same) (omega (arith, size-chars more c.cut.utf8, sized)) in
      rw (c.in_ok-push.ensures.items, c.in_ok-push_str.ensures.bytes)
      (part_added c.args.joined.now.parts.items (string_bytes c.args.joined.now.text) more c.args.from
      c.args.to cs (IsUtf8-string_bytes c.args.joined.now.text) same sized fit placed h);
}
