use Rattle.std.proofs.Common.{refl, ◌∙◌}
use Rattle.std.specs.Str.{chars}
use Rattle.interpolator_syntax.specs.Places.{outermost}
use Rattle.interpolator_pieces.specs.{NodeExtents.visit_depth, declared.extent.Deepest.Deepest}
use Rattle.interpolator_pieces.proofs.{ExtentLemmas.text_greatest, VisitLemmas.text_depth}
use Rattle.interpolator.proofs.template.Template.depth.Goals as goal

pub returns : goal.returns
returns c =
    let a = outermost (chars c.args.self.now) in
    let all = text_greatest {V = Deepest} _ (λ v. v.0) visit_depth (λ old new x answer adds. adds)
    a _ _ _ refl c.in-Ok.ensures.walks in
    record { depth = all.1 ∙ text_depth a }
