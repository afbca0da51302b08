use Rattle.std.proofs.Common.{rules}
use Rattle.interpolator_eval.specs.{Escaping.shows_by, Meaning.Environments.environment}
use Rattle.interpolator_pieces.specs.Stored.{node_of}
use Rattle.interpolator_prepared.specs.Rows.{name_bytes}
use Rattle.interpolator_prepared.proofs.KeptLemmas.{kept_whole, kept_means}
use Rattle.interpolator_prepared.proofs.run.run_kept.Goals as goal

pub write_kept-answer-requires : goal.write_kept-answer-requires
write_kept-answer-requires g c =
    record { whole = kept_whole (node_of c.args.text.now c.args.kept.now) c.requires.fits }

pub returns : goal.returns
returns g c =
    record {
      outcome = λ value_at.
          let named = c.args.named.now in
          let e = environment (g.R.PreparedRow.finds_in named.row.now (name_bytes named.names.now)) in
          let same = kept_means (shows_by g.E.Escaper.shown g.R.Object.Value.shows) e value_at
          (node_of c.args.text.now c.args.kept.now) c.requires.fits in
          let o = rw same at (rw c.into_writer.ensures at
          (rw c.outermost-environment.ensures at c.write_kept-answer.ensures.writes.outcome)) in
          search rules;
    }
