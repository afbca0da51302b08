use Rattle.interpolator_eval.proofs.MeaningLemmas.ListLawLemmas.{empty_text, empty_fault}
use Rattle.interpolator_eval.proofs.laws.meanings.list_of_no_item_is_its_padding.Goals as goal

pub returns : goal.returns
returns g c = record {
  text = λ e start q x l ts f none. empty_text g.V.Value.shows e start q x l ts f none;
  fault = λ e start q x l ts f none. empty_fault g.V.Value.shows e start q x l ts f none;
}
