use Rattle.std.proofs.Common.{refl, ◌∙◌}
use Rattle.std.specs.Str.{chars}
use Rattle.interpolator_syntax.specs.Places.{outermost}
use Rattle.interpolator_pieces.specs.{NodeExtents.visit_extent, declared.extent.Widest.Widest}
use Rattle.interpolator_pieces.proofs.{ExtentLemmas.text_greatest, VisitLemmas.text_extent}
use Rattle.interpolator.proofs.template.Template.widest.Goals as goal

pub returns : goal.returns
returns c =
    let a = outermost (chars c.args.self.now) in
    let all = text_greatest {V = Widest} _ (λ v. v.0) visit_extent (λ old new x answer adds. adds)
    a _ _ _ refl c.in-Ok.ensures.walks in
    record { widest = all.1 ∙ text_extent a }
