use Rattle.std.proofs.Common.{◌≡◌, ◌∙◌, ap, sym, arith, List, ℕ, ◌++◌, length-append, chars}
use Rattle.std.proofs.lemmas.List.{length-take-le, take_at}
use Rattle.interpolator_render.specs.Writers.{byte_count}
use Rattle.interpolator_escapes.proofs.RoomLemmas.{held_size, holds_more, laid_text, grown}
use Rattle.interpolator_escapes.proofs.room.Room.lay.Goals as goal

pub put_over-requires : goal.put_over-requires
put_over-requires c =
    let size : byte_count c.args.self.now ≡ c.self.inside.filled = ap byte_count (sym c.self.view_is)
    ∙ held_size c.self.inside.bytes c.self.inside.filled c.self.told c.self.invariant in
    grind arith

pub invariant_of-self : goal.invariant_of-self
invariant_of-self c =
    let size : byte_count c.args.self.now ≡ c.self.inside.filled = ap byte_count (sym c.self.view_is)
    ∙ held_size c.self.inside.bytes c.self.inside.filled c.self.told c.self.invariant in
    holds_more _ _ c.args.text.now _ _ c.self.invariant c.utf8.text
    (grind (arith, length-append, length-take-le, take_at)) (grind arith)

pub returns-clause-text : goal.returns-clause-text
returns-clause-text c =
    let size : byte_count c.args.self.now ≡ c.self.inside.filled = ap byte_count (sym c.self.view_is)
    ∙ held_size c.self.inside.bytes c.self.inside.filled c.self.told c.self.invariant in
    laid_text _ _ c.args.text.now _ _ c.self.invariant
    (grind (arith, length-append, length-take-le, take_at))
    ∙ ap (λ (l : List ℕ). l ++ chars c.args.text.now) c.self.view_is

pub returns-clause-size : goal.returns-clause-size
returns-clause-size c = grown _ _ c.args.text.now c.utf8.text (returns-clause-text c)
