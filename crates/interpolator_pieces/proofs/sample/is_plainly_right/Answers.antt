use Rattle.std.proofs.Common.{arith, refl, rules}
use Rattle.interpolator_eval.specs.Meaning.Samples.{sample_of}
use Rattle.interpolator_pieces.proofs.CollectLemmas.{text_right, name_right, value_right}
use Rattle.interpolator_pieces.proofs.RunLemmas.{name_fits, value_fits}
use Rattle.interpolator_pieces.proofs.WholePieceLemmas.{fits_text}
use Rattle.interpolator_pieces.proofs.sample.is_plainly_right.Goals as goal

pub is_shown-requires : goal.is_shown-requires
is_shown-requires g c = grind (arith, name_fits, fits_text)

pub is_shown-requires-in-Value : goal.is_shown-requires-in-Value
is_shown-requires-in-Value g c = grind (arith, value_fits, fits_text)

pub returns-in-Text : goal.returns-in-Text
returns-in-Text g c = record {
  right = λ _. text_right _ (sample_of g.C.Context.finds c.args.sample.now) c.args.text.now
      c.args.piece.now c.requires.whole (c.has_groups.ensures.none c.if-has_groups.false)
      (grind arith);
}

pub returns-in-Plain : goal.returns-in-Plain
returns-in-Plain g c = record {
  right = λ right. name_right _ (sample_of g.C.Context.finds c.args.sample.now) c.args.text.now
      c.args.piece.now c.requires.whole (c.has_groups.ensures.none c.if-has_groups.false) _ _
      (c.is_shown.ensures.closed right) (c.is_shown.ensures.shown right)
      (grind (arith, name_fits, fits_text)) (grind arith) refl (search rules);
}

pub returns-in-Value : goal.returns-in-Value
returns-in-Value g c = record {
  right = λ right. value_right _ (sample_of g.C.Context.finds c.args.sample.now) c.args.text.now
      c.args.piece.now c.requires.whole (c.has_groups.ensures.none c.if-has_groups.false) _ _
      (c.is_shown-in-Value.ensures.closed right) (c.is_shown-in-Value.ensures.shown right)
      (grind (arith, value_fits, fits_text)) (grind arith) c.spec_of.ensures;
}
