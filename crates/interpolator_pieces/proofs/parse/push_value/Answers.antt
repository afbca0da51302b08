use Rattle.std.proofs.Common.{◌∙◌, refl}
use Rattle.interpolator_pieces.proofs.ParseLemmas.{rest_is, value_pushed}
use Rattle.interpolator_pieces.proofs.parse.push_value.Goals as goal

pub returns-clause-rest : goal.returns-clause-rest
returns-clause-rest c =
    rest_is c.args.opening.place _ c.args.opening.named c.args.asked.now c.args.end c.requires.start
    c.requires.read c.requires.name_end _ c.ending-kind.ensures.rest

pub returns-clause-pushed : goal.returns-clause-pushed
returns-clause-pushed c =
    value_pushed c.args.opening.place _ c.args.opening.named c.args.asked.now c.args.end
    c.requires.start c.requires.read c.requires.name_end _ _ _ _ _ c.ending-kind.ensures.rest
    c.ending-kind.ensures.kind c.in_ok-push_piece.ensures c.args.asked.now.slot c.requires.asked
    (λ bs. c.in_ok-piece.ensures.node bs ∙ rw c.no_groups.ensures refl)
