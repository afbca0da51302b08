use Rattle.std.proofs.Common.{◌≡◌, ◌∙◌, ap, sym, arith, List, ℕ, ◌+◌, ◌++◌, chars, take}
use Rattle.std.proofs.{lemmas.List.length-take-le, lemmas.Str.IsUtf8-take}
use Rattle.interpolator_render.specs.Writers.{byte_count}
use Rattle.interpolator_escapes.proofs.RoomLemmas.{held_size, holds_more, laid_text, grown}
use Rattle.interpolator_escapes.proofs.RoomLemmas.{front_laid}
use Rattle.interpolator_escapes.proofs.room.Room.lay_front.Goals as goal

pub put_block_over-requires-clause-within : goal.put_block_over-requires-clause-within
put_block_over-requires-clause-within c =
    let size : byte_count c.args.self.now ≡ c.self.inside.filled = ap byte_count (sym c.self.view_is)
    ∙ held_size c.self.inside.bytes c.self.inside.filled c.self.told c.self.invariant in
    grind (arith, length-take-le)

pub invariant_of-self : goal.invariant_of-self
invariant_of-self c =
    let size : byte_count c.args.self.now ≡ c.self.inside.filled = ap byte_count (sym c.self.view_is)
    ∙ held_size c.self.inside.bytes c.self.inside.filled c.self.told c.self.invariant in
    holds_more _ _ (take c.args.count c.args.text.now) _ _ c.self.invariant
    (IsUtf8-take c.args.text.now c.args.count c.utf8.text c.requires.cut)
    (front_laid _ _ c.args.text.now _ _ _ c.self.told c.self.invariant.within c.requires.block
    c.requires.few (rw c.as_bytes.ensures.value at c.put_block_over.ensures)) (grind arith)

pub returns-clause-text : goal.returns-clause-text
returns-clause-text c =
    let size : byte_count c.args.self.now ≡ c.self.inside.filled = ap byte_count (sym c.self.view_is)
    ∙ held_size c.self.inside.bytes c.self.inside.filled c.self.told c.self.invariant in
    laid_text _ _ (take c.args.count c.args.text.now) _ _ c.self.invariant
    (front_laid _ _ c.args.text.now _ _ _ c.self.told c.self.invariant.within c.requires.block
    c.requires.few (rw c.as_bytes.ensures.value at c.put_block_over.ensures))
    ∙ ap (λ (l : List ℕ). l ++ chars (take c.args.count c.args.text.now)) c.self.view_is

pub returns-clause-size : goal.returns-clause-size
returns-clause-size c =
    grown _ _ (take c.args.count c.args.text.now)
    (IsUtf8-take c.args.text.now c.args.count c.utf8.text c.requires.cut) (returns-clause-text c)
    ∙ ap (λ (n : ℕ). byte_count c.args.self.now + n) (grind (arith, length-take-le))
