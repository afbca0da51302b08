use Rattle.std.proofs.Common.{ap, ◌∙◌}
use Rattle.std.specs.{Prelude.string_bytes, Str.chars}
use Rattle.interpolator_syntax.specs.{Places.outermost, Nodes.nodes}
use Rattle.interpolator_pieces.specs.Stored.{nodes_of}
use Rattle.interpolator.proofs.template.Template.argument_at.Goals as goal

pub returns : goal.returns
returns c =
    let bs = string_bytes c.self.inside.text in
    let all =
    ap (nodes_of bs) c.deref.ensures.value ∙ c.self.invariant
    ∙ ap (λ bs. nodes (outermost (chars bs))) c.self.view_is in
    record { argument = rw all at (c.argument_among.ensures bs) }
