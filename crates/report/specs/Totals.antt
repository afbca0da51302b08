-- What the total of cells is.
use Rattle.std.specs.Prelude.{◌≡◌, ◌≢◌, ◌+ℤ◌, ◌*ℤ◌, ◌-◌, ℕ, ℤ, pos, ⊤, FitsSigned, List, [], ◌∷◌}
use Rattle.std.specs.Prelude.{Bool, true, false, None, Some, length, max, ◌&&◌, ◌||◌, codes, eqb}
use Rattle.std.specs.Prelude.{nat_lt}
use Rattle.std.specs.{Int.int_pow, Int.w128, List.position, List.starts_with}
use Rattle.interpolator.specs.DecimalTexts.{Spells, SpellsDecimal}
use Rattle.interpolator.specs.declared.decimal.Decimal.{Decimal}
use Rattle.report.specs.declared.totals.Cell.TheVariants.{Empty, Large, Number, Other}
use Rattle.report.specs.{declared.totals.Cell.Cell, declared.totals.NoTotal.NoTotal}
use Rattle.report.specs.declared.totals.NoTotal.TheVariants as none
use Rattle.report.specs.declared.totals.Total.{Total}

-- the text is a number, however large
abbrev pub IsNumber : List ℕ → Type 0
IsNumber text = (units : ℤ) × (scale : ℕ) × SpellsDecimal text units scale

-- what a text is: empty, a number of 128 bits, a larger one, or no number
abbrev pub IsCell : List ℕ → Cell → Type 0
IsCell text Empty = text ≡ []
IsCell text (Number number) = Spells text number
IsCell text Large = IsNumber text × ((number : Decimal) → ¬ (Spells text number))
IsCell text Other = (text ≢ []) × ¬ (IsNumber text)

-- what each text is
abbrev pub AreCells : List (List ℕ) → List Cell → Type 0
AreCells [] [] = ⊤
AreCells [] (_ ∷ _) = ⊥
AreCells (_ ∷ _) [] = ⊥
AreCells (text ∷ texts) (cell ∷ cells) = IsCell text cell × AreCells texts cells

-- a cell is a number of more than 128 bits
abbrev pub is_large : Cell → Bool
is_large Large = true
is_large _ = false

-- a whole number is a code, which is not the same without what is in front: a zero or a plus
abbrev pub is_code : List ℕ → Bool
is_code text = starts_with eqb text (codes "+") || (starts_with eqb text (codes "-0")
    || (starts_with eqb text (codes "0") && nat_lt 1 (length text)))

-- the numbers among cells
abbrev pub numbers_in : List Cell → List Decimal
numbers_in [] = []
numbers_in (Number number ∷ cells) = number ∷ numbers_in cells
numbers_in (_ ∷ cells) = numbers_in cells

-- the units of a number, counted at a scale that is not less
abbrev pub units_at : ℕ → Decimal → ℤ
units_at scale number = number.units *ℤ int_pow (pos 10) (scale - number.scale)

-- the sum of the units of some numbers, counted at a scale
abbrev pub sum_at : ℕ → List Decimal → ℤ
sum_at scale [] = pos 0
sum_at scale (number ∷ numbers) = units_at scale number +ℤ sum_at scale numbers

-- the greatest scale of some numbers
abbrev pub greatest_scale : List Decimal → ℕ
greatest_scale [] = 0
greatest_scale (number ∷ numbers) = max number.scale (greatest_scale numbers)

-- the exact sum of some numbers, at the greatest of their scales, however many bits it has
abbrev pub exact_sum : List Decimal → Decimal
exact_sum numbers = let scale = greatest_scale numbers in
    record { units = sum_at scale numbers; scale = scale }

-- a sum of so many numbers
abbrev pub total_with : Decimal → ℕ → Total
total_with sum counted = record { sum = sum; counted = counted }

-- the exact sum of some numbers, and how many they are
abbrev pub exact_total : List Decimal → Total
exact_total numbers = total_with (exact_sum numbers) (length numbers)

-- the total of cells, none of which is too large: that of the numbers among them
abbrev pub IsTotal : List Cell → Total → Type 0
IsTotal cells total =
    (position is_large cells ≡ None) × (total ≡ exact_total (numbers_in cells))

-- why cells have no total: for memory; since the first that is too large has so many before it; or
-- since none is, and the sum is
abbrev pub Explains : List Cell → NoTotal → Type 0
Explains cells none.NoMemory = ⊤
Explains cells (none.Number before) = position is_large cells ≡ Some before
Explains cells none.Sum = (position is_large cells ≡ None)
    × ¬ (FitsSigned w128 (exact_sum (numbers_in cells)).units)
