use Rattle.interpolator_floats.proofs.DecideLemmas.{tens_choice}
use Rattle.interpolator_floats.proofs.shortest.decided.Goals as goal

pub returns-then-low-tens : goal.returns-then-low-tens
returns-then-low-tens c = λ n unit below above some narrow within inside near_low near_high most next between.
    tens_choice n unit below above c.args.low c.args.high c.args.near some narrow within inside near_low near_high most next between c.if-low-tens.true
