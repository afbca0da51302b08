use Rattle.std.proofs.Common.{◌≡◌, ◌∙◌, ap, ap₂, sym, arith, List, ℕ, ◌+◌, ◌++◌, encode_utf8}
use Rattle.std.proofs.lemmas.Str.{encode_ascii, IsUtf8-encode}
use Rattle.std.proofs.{lemmas.Bool.Decides.nat_tests, lemmas.List.take_more_set}
use Rattle.interpolator_render.specs.Writers.{byte_count}
use Rattle.interpolator_render.proofs.WrittenLemmas.{chars-encode}
use Rattle.interpolator_escapes.proofs.RoomLemmas.{held_size, holds_more, laid_text, grown}
use Rattle.interpolator_escapes.proofs.room.Room.lay_ascii.Goals as goal

pub bounds-self-inside-self-inside : goal.bounds-self-inside-self-inside
bounds-self-inside-self-inside c =
    let size : byte_count c.args.self.now ≡ c.self.inside.filled = ap byte_count (sym c.self.view_is)
    ∙ held_size c.self.inside.bytes c.self.inside.filled c.self.told c.self.invariant in
    grind arith

pub invariant_of-self : goal.invariant_of-self
invariant_of-self c =
    let size : byte_count c.args.self.now ≡ c.self.inside.filled = ap byte_count (sym c.self.view_is)
    ∙ held_size c.self.inside.bytes c.self.inside.filled c.self.told c.self.invariant in
    holds_more _ _ _ _ _ c.self.invariant (IsUtf8-encode c.args.c c.ranges.c.0)
    (grind (arith, nat_tests, encode_ascii, take_more_set)) (grind arith)

pub returns-clause-text : goal.returns-clause-text
returns-clause-text c =
    let size : byte_count c.args.self.now ≡ c.self.inside.filled = ap byte_count (sym c.self.view_is)
    ∙ held_size c.self.inside.bytes c.self.inside.filled c.self.told c.self.invariant in
    laid_text _ _ (encode_utf8 c.args.c) _ _ c.self.invariant
    (grind (arith, nat_tests, encode_ascii, take_more_set))
    ∙ ap₂ (λ (a b : List ℕ). a ++ b) c.self.view_is (chars-encode c.args.c c.ranges.c.0)

pub returns-clause-size : goal.returns-clause-size
returns-clause-size c =
    grown _ _ (encode_utf8 c.args.c) (IsUtf8-encode c.args.c c.ranges.c.0)
    (returns-clause-text c
    ∙ ap (λ (l : List ℕ). c.args.self.now ++ l) (sym (chars-encode c.args.c c.ranges.c.0)))
    ∙ ap (λ (n : ℕ). byte_count c.args.self.now + n) (grind (arith, nat_tests, encode_ascii))
