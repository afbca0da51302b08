use Rattle.std.proofs.Common.{◌∙◌, ap, refl}
use Rattle.interpolator_syntax.specs.Places.{At}
use Rattle.interpolator_pieces.proofs.parse.push_broken.Goals as goal

pub returns-clause-pushed : goal.returns-clause-pushed
returns-clause-pushed c =
    let ends = ap (λ (a : At). a.place) c.skip_all-rest.ensures in
    record {
      piece = _;
      added = c.in_ok-push_piece.ensures;
      stands = λ bs u w. c.in_ok-piece.ensures.node bs ∙ rw (ends, c.no_groups.ensures) refl;
    }
