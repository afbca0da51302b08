use Rattle.std.proofs.Common.{ap, ◌∙◌}
use Rattle.std.specs.{Prelude.string_bytes, Str.chars}
use Rattle.interpolator_syntax.specs.{Places.outermost, Nodes.nodes}
use Rattle.interpolator_pieces.specs.Stored.{nodes_of}
use Rattle.interpolator_pieces.proofs.WholeLemmas.{nodes_whole}
use Rattle.interpolator.proofs.template.Template.cost.Goals as goal

pub cost_of-requires : goal.cost_of-requires
cost_of-requires c =
    let all =
    ap (λ bs. nodes_of bs c.deref.result.now) c.as_str.ensures.value
    ∙ ap (nodes_of (string_bytes c.self.inside.text)) c.deref.ensures.value ∙ c.self.invariant
    ∙ ap (λ bs. nodes (outermost (chars bs))) c.self.view_is in
    record { whole = rw all (nodes_whole (outermost (chars c.args.self.now))) }

pub returns : goal.returns
returns c =
    let all =
    ap (λ bs. nodes_of bs c.deref.result.now) c.as_str.ensures.value
    ∙ ap (nodes_of (string_bytes c.self.inside.text)) c.deref.ensures.value ∙ c.self.invariant
    ∙ ap (λ bs. nodes (outermost (chars bs))) c.self.view_is in
    record { cost = rw all at c.cost_of.ensures }
