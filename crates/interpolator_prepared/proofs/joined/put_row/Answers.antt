use Rattle.std.proofs.Common.{ap, arith, take, ◌≡◌, ◌+◌}
use Rattle.std.proofs.lemmas.Str.{IsUtf8-string_bytes}
use Rattle.std.specs.Str.{chars}
use Rattle.interpolator_render.proofs.WrittenLemmas.{appended_within}
use Rattle.interpolator_syntax.specs.Faults.{fault, fmt}
use Rattle.interpolator_eval.proofs.MeaningLemmas.PlacedLemmas.{refused_from, wrote_from}
use Rattle.interpolator_eval.specs.declared.evaluate.sink.WriteFault.TheVariants as faults
use Rattle.interpolator_prepared.proofs.NumberRowLemmas.{row_refused, row_writes}
use Rattle.interpolator_prepared.proofs.joined.put_row.Goals as goal

pub returns-in-Ok : goal.returns-in-Ok
returns-in-Ok g c =
    let text = take c.args.count c.args.row.now in
    record {
      outcome = λ digits ascii row. row_writes c.args.joined.now.parts.items _ digits c.args.end
          (IsUtf8-string_bytes c.args.joined.now.text) ascii text _ _ row
          (wrote_from 0 (chars text) _ _ (appended_within _ _ _ _ _ c.in-Ok.ensures));
    }

pub returns-in-Err : goal.returns-in-Err
returns-in-Err g c =
    let e = c.in-Err in
    let text = take c.args.count c.args.row.now in
    let from_first : 0 + e.refusal.taken ≡ e.refusal.taken = omega arith in
    let refused = refused_from 0 (chars text) e.refusal.taken _ _ e.ensures in
    record {
      outcome = λ digits ascii row. row_refused c.args.joined.now.parts.items _ digits c.args.end
          (IsUtf8-string_bytes c.args.joined.now.text) ascii text _ _ row
          (faults.Fmt e.refusal.taken) _ (ap (λ p. fault (fmt p)) c.place_behind.ensures)
          (rw from_first at refused);
    }
