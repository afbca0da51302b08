use Rattle.std.proofs.Common.{◌≡◌, ◌∷◌, ◌≤◌, [], arith, length, drop}
use Rattle.interpolator_pieces.proofs.WholePieceLemmas.{pieces_whole}
use Rattle.interpolator_prepared.specs.StoredSteps.{text_count}
use Rattle.interpolator_prepared.proofs.CompileLemmas.{first_whole, text_count_le, texts_fit}
use Rattle.interpolator_prepared.proofs.SimpleListLemmas.{all_fit, around_item}
use Rattle.interpolator_prepared.proofs.lists.around_value.Goals as goal

pub split_at-requires : goal.split_at-requires
split_at-requires c = rw c.text_count.ensures (text_count_le c.args.pieces.now)

pub value_form-requires : goal.value_form-requires
value_form-requires c =
    let bs = c.args.text.now in
    let xs = c.args.pieces.now in
    let rest : drop (text_count xs) xs ≡ c.in-Some.one.now ∷ c.in-Some.after.now =
    rw (← c.text_count.ensures, ← c.split_at.ensures.back) c.in-Some.ensures.cases.0 in
    record {
      whole = (first_whole [] bs c.in-Some.one.now c.in-Some.after.now
          (rw rest at (pieces_whole bs xs (text_count xs) c.requires.whole))).0;
    }

pub returns : goal.returns
returns c =
    let bs = c.args.text.now in
    let xs = c.args.pieces.now in
    let after = c.in-Some.after.now in
    let rest : drop (text_count xs) xs ≡ c.in-Some.one.now ∷ after =
    rw (← c.text_count.ensures, ← c.split_at.ensures.back) c.in-Some.ensures.cases.0 in
    let whole = (first_whole [] bs c.in-Some.one.now after
    (rw rest at (pieces_whole bs xs (text_count xs) c.requires.whole))).1 in
    let all : length after ≤ text_count after =
    omega (arith, c.if-text_count-after.false, c.text_count-2.ensures) in
    record {
      items = record {
        before = rw (c.split_at.ensures.front, c.text_count.ensures) (texts_fit [] bs xs c.requires.whole);
        after = all_fit bs after whole all;
        is = rw (c.split_at.ensures.front, c.text_count.ensures)
            (around_item bs xs after c.in-Some.one.now c.in-Some-value_form.value c.requires.whole rest
            c.in-Some-value_form.ensures.form all whole);
      };
    }
