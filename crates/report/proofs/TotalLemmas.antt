-- Cells, one after the other.
use Rattle.std.proofs.Common.{◌≡◌, ◌+◌, ◌<◌, ℕ, suc, refl, ap, sym, arith, List, [], ◌∷◌, ◌++◌, map}
use Rattle.std.proofs.Common.{take, take-suc, get_or, length, Err, IfErr, Result, subst}
use Rattle.std.proofs.lemmas.List.{map_more}
use Rattle.std.specs.Borrow.{Bor}
use Rattle.interpolator.specs.{DecimalTexts.Explains, declared.decimal.Decimal.Decimal}
use Rattle.interpolator_syntax.specs.declared.error.NumberError.{NumberError}
use Rattle.interpolator_syntax.specs.declared.error.NumberError.TheVariants.{InvalidDigit}
use Rattle.report.specs.Totals.{AreCells, IsCell, numbers_in}
use Rattle.report.specs.declared.totals.Cell.{Cell}
use Rattle.report.specs.declared.totals.Cell.TheVariants.{Empty, Large, Number, Other}

-- a text with a character that is no digit is no number
pub no_digit : (read : Result Decimal NumberError) (text : List ℕ) →
    IfErr read (λ error. Explains text error) → read ≡ Err InvalidDigit → IsCell text Other
no_digit read text why e =
    let fault : IfErr {T = Decimal} {E = NumberError} (Err InvalidDigit)
    (λ error. Explains text error) =
    subst (λ (r : Result Decimal NumberError). IfErr r (λ error. Explains text error)) e why in
    (fault.0, λ number. fault.1 number.0 number.1 number.2)

-- what one text more is
cells_more : (texts : List (List ℕ)) (cells : List Cell) (text : List ℕ) (cell : Cell) →
    AreCells texts cells → IsCell text cell →
    AreCells (texts ++ (text ∷ [])) (cells ++ (cell ∷ []))
cells_more [] [] text cell all one = (one, all)
cells_more [] (_ ∷ _) text cell all one = absurd all
cells_more (_ ∷ _) [] text cell all one = absurd all
cells_more (_ ∷ texts) (_ ∷ cells) text cell all one =
    (all.0, cells_more texts cells text cell all.1 one)

pub cells_step : (entries : List (Bor (List ℕ))) (n : ℕ) (entry : Bor (List ℕ))
    (cells more : List Cell) (cell : Cell) → n < length entries →
    AreCells (map (λ x. x.now) (take n entries)) cells →
    IsCell (get_or entries n entry).now cell → more ≡ cells ++ (cell ∷ []) →
    AreCells (map (λ x. x.now) (take (n + 1) entries)) more
cells_step entries n entry cells more cell within all one e =
    rw (e, map_more (λ x. x.now) entries n entry within)
    (cells_more (map (λ x. x.now) (take n entries)) cells _ cell all one)

numbers_more : (cells others : List Cell) →
    numbers_in (cells ++ others) ≡ numbers_in cells ++ numbers_in others
numbers_more [] others = refl
numbers_more (Empty ∷ cells) others = numbers_more cells others
numbers_more (Number number ∷ cells) others = ap (λ ns. number ∷ ns) (numbers_more cells others)
numbers_more (Large ∷ cells) others = numbers_more cells others
numbers_more (Other ∷ cells) others = numbers_more cells others

-- the numbers of one cell more
pub numbers_step : (cells : List Cell) (n : ℕ) (d : Cell) (so_far more : List Decimal) →
    n < length cells → so_far ≡ numbers_in (take n cells) →
    more ≡ so_far ++ numbers_in (get_or cells n d ∷ []) → more ≡ numbers_in (take (n + 1) cells)
numbers_step cells n d so_far more within is e =
    let next : n + 1 ≡ suc n = omega arith in
    rw (e, is, next, take-suc cells n d within)
    (sym (numbers_more (take n cells) (get_or cells n d ∷ [])))
