-- A text at the front of a row of places.
use Rattle.std.proofs.Common.{◌≡◌, ◌∙◌, ap, sym, arith, ℕ, ◌+◌, ◌≤◌, Bool, true, List, ◌++◌, length}
use Rattle.std.proofs.Common.{take, IsUtf8, length-append, length-take-le}
use Rattle.std.proofs.lemmas.Str.{IsUtf8-append}
use Rattle.std.proofs.Math.Seq.{take-append-add, take-append-le}
use Rattle.interpolator_render.specs.Writers.{HoldsText}

-- a row that begins with the text of another and one more text holds both
pub holds_more : (row after text : List ℕ) (len long : ℕ) (refused flag : Bool) →
    HoldsText row len refused → IsUtf8 text → take long after ≡ take len row ++ text →
    long ≤ length after → (flag ≡ true → length after ≡ long) → HoldsText after long flag
holds_more row after text len long refused flag held utf8 front fits full = record {
  within = fits;
  utf8 = rw front (IsUtf8-append _ _ held.utf8 utf8);
  none_ready = full;
}

-- a row in which a longer row lies behind a text has the text and a beginning of the longer row
pub front_of_both : (text row rest after : List ℕ) (len count : ℕ) → len ≤ length text →
    count ≤ length row → after ≡ take len text ++ row ++ rest →
    take (len + count) after ≡ take len text ++ take count row
front_of_both text row rest after len count fits most same =
    let front = length-take-le len text fits in
    ap (take (len + count)) same
    ∙ take-append-le (len + count) (take len text ++ row) rest
    (omega (arith, most, front, length-append (take len text) row))
    ∙ ap (λ k. take (k + count) (take len text ++ row)) (sym front)
    ∙ take-append-add (take len text) row count
