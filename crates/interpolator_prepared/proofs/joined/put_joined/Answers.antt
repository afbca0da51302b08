use Rattle.std.proofs.Common.{ap, arith, ◌≡◌, ◌+◌}
use Rattle.std.specs.Str.{chars}
use Rattle.interpolator_render.proofs.WrittenLemmas.{appended_within}
use Rattle.interpolator_syntax.specs.Faults.{fault, fmt}
use Rattle.interpolator_eval.proofs.MeaningLemmas.PlacedLemmas.{refused_from, wrote_from}
use Rattle.interpolator_eval.specs.declared.evaluate.sink.WriteFault.TheVariants as faults
use Rattle.interpolator_prepared.proofs.JoinedLemmas.{joined_writes, joined_refused}
use Rattle.interpolator_prepared.proofs.joined.put_joined.Goals as goal

pub returns-in-Ok : goal.returns-in-Ok
returns-in-Ok g c =
    record {
      outcome = joined_writes _ _ c.as_str.result.now _ _ c.as_str.ensures.value
          (wrote_from 0 (chars c.as_str.result.now) _ _ (appended_within _ _ _ _ _ c.in-Ok.ensures));
    }

pub returns-in-Err : goal.returns-in-Err
returns-in-Err g c =
    let e = c.in-Err in
    let from_first : 0 + e.refusal.taken ≡ e.refusal.taken = omega arith in
    let refused = refused_from 0 (chars c.as_str.result.now) e.refusal.taken _ _ e.ensures in
    record {
      outcome = joined_refused _ _ c.as_str.result.now _ _ c.as_str.ensures.value
          (faults.Fmt e.refusal.taken) _ c.deref.result.now (ap (λ p. fault (fmt p)) c.place_of.ensures)
          c.deref.ensures.value (rw from_first at refused);
    }
