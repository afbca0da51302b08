use Rattle.std.proofs.Common.{false}
use Rattle.interpolator.proofs.OwnedLemmas.{drafted}
use Rattle.interpolator.proofs.owned_view.OwnedView.shown.Goals as goal

pub returns-in-Ok-clause-text : goal.returns-in-Ok-clause-text
returns-in-Ok-clause-text g c = λ different.
    drafted (g.D.Display.output c.args.value) (record { text = c.new.result; refused = false })
    c.write.new.self c.new.ensures.bytes c.in-Ok.ensures.writes
