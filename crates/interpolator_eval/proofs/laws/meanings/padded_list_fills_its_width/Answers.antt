use Rattle.interpolator_eval.proofs.MeaningLemmas.ListLawLemmas.{wide_count, wide_text}
use Rattle.interpolator_eval.proofs.laws.meanings.padded_list_fills_its_width.Goals as goal

pub returns : goal.returns
returns g c = record {
  count = λ e start q width x l ts f wide. wide_count g.V.Value.shows e start q x l ts f width wide;
  text = λ e start q width x l ts f wide. wide_text g.V.Value.shows e start q x l ts f width wide;
}
