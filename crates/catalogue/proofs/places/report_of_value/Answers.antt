use Rattle.std.proofs.Common.{◌≡◌, length, subst}
use Rattle.std.proofs.lemmas.Result.{IfOk-weaker}
use Rattle.catalogue.specs.Files.{as_line}
use Rattle.catalogue.proofs.SoundLemmas.{placed_some}
use Rattle.catalogue.proofs.places.report_of_value.Goals as goal

pub returns : goal.returns
returns c = IfOk-weaker c.report_of_place.result _ _ (λ reported is none.
    placed_some (as_line c.args.line.now) c.args.format.now c.args.misplaced.place _
    (subst (λ text. length text ≡ 0) is none)) c.report_of_place.ensures.reported
