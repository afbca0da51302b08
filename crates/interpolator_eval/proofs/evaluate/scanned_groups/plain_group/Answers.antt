use Rattle.std.proofs.Common.{refl, sym}
use Rattle.interpolator_syntax.specs.Places.{at}
use Rattle.interpolator_eval.proofs.MeaningLemmas.PlainItemLemmas.{group_framed}
use Rattle.interpolator_eval.proofs.evaluate.scanned_groups.plain_group.Goals as goal

pub returns-in-Literals : goal.returns-in-Literals
returns-in-Literals c =
    let here = c.inside-here in
    let token = rw c.in-Literals.is at (sym c.in_ok-token.ensures.token) in
    let bare = c.bare_from.ensures in
    group_framed _ (at here.result) _ _ _ _ here.ensures token refl bare.bare bare.before
