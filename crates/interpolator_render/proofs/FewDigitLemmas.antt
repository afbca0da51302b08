-- Digits of few, put into a row.
use Rattle.std.proofs.Common.{◌≡◌, ◌∙◌, ap, arith, ℕ, ◌+◌, ◌≤◌, ◌<◌, ◌/◌, ◌%◌, false, List, []}
use Rattle.std.proofs.Common.{◌∷◌, ◌++◌, length, take, drop}
use Rattle.std.proofs.Common.{IsAscii, length-append, length-take-le}
use Rattle.std.proofs.{lemmas.Bool.Decides.nat_tests, Math.Seq.take-append_seam}
use Rattle.interpolator_digits.specs.Digits.{digit_text}
use Rattle.interpolator_digits.proofs.DigitLemmas.{digit_text_step, one_alone, pair_alone, three_alone}
use Rattle.interpolator_render.specs.Texts.{ViewText, has_text}
use Rattle.interpolator_render.specs.FewDigits.{PutsFew}

-- a number of four digits
pub four_alone : (n : ℕ) → 1000 ≤ n → n < 10000 →
    digit_text 10 false n ≡ (48 + n / 100 / 10) ∷ (48 + n / 100 % 10) ∷ (48 + n % 100 / 10)
    ∷ (48 + n % 100 % 10) ∷ []
four_alone n l h = grind (arith, digit_text_step, three_alone, nat_tests)

-- those of fewer, each at once
pub ruleset few_texts = (one_alone, pair_alone, three_alone)

-- the first of two texts is a beginning of both
front_of : (k : ℕ) (xs ys : List ℕ) → k ≡ length xs → take k (xs ++ ys) ≡ xs
front_of k xs ys e = ap (λ i. take i (xs ++ ys)) e ∙ take-append_seam xs ys

-- a row that has these digits from `at` on
module _ (at count : ℕ) (old new digits : List ℕ) (room : at + 4 ≤ length old)
    (put : new ≡ take at old ++ digits ++ drop (at + length digits) old) where
  front_size : at ≡ length (take at old)
  front_size = omega (arith, length-take-le at old (omega (arith, room)))

  pub few_put : (v : ViewText) → v ≡ has_text digits → IsAscii digits → count ≡ length digits
      → count ≤ 4 → PutsFew v at count old new
  few_put v text ascii sized few =
      let whole = length-append (take at old) digits in
      record {
        digits = digits;
        text = text;
        ascii = ascii;
        few = few;
        row = ap (take (at + count)) put
            ∙ front_of (at + count) (take at old ++ digits) _
            (omega (arith, whole, front_size, sized));
      }
