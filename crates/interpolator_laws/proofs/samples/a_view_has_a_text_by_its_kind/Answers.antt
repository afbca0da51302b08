use Rattle.std.proofs.Common.{refl}
use Rattle.interpolator_laws.proofs.SamplePairLemmas.{kind_has_text}
use Rattle.interpolator_laws.proofs.samples.a_view_has_a_text_by_its_kind.Goals as goal

pub returns : goal.returns
returns c = record {
  kind = kind_has_text;
  unsigned = λ m n t spec. kind_has_text _ _ t spec refl refl;
  signed = λ y z bits t spec. kind_has_text _ _ t spec refl refl;
  texts = λ cs ds t spec. kind_has_text _ _ t spec refl refl;
  truths = λ a b t spec. kind_has_text _ _ t spec refl refl;
  decimals = λ y z m n t spec. kind_has_text _ _ t spec refl refl;
  floats = λ f h x y t spec. kind_has_text _ _ t spec refl refl;
  characters = λ c' d t spec. kind_has_text _ _ t spec refl refl;
}
