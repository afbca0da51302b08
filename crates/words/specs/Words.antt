-- The words of the command line: what each means, by its bytes.
use Rattle.std.specs.Prelude.{◌≡◌, ◌⊎◌, ◌↔◌, ◌==◌, ◌<◌, ℕ, ℤ, pos, neg_ℤ, Bool, List, ◌++◌, codes}
use Rattle.std.specs.Prelude.{length, FitsSigned, Option, None, Some}
use Rattle.std.specs.List.{after_first, before_first, position_or_len}
use Rattle.std.specs.Str.Parse.{IsNumeral, digits_value}
use Rattle.std.specs.{Float.binary64, Float.Parse.parse_float, Float.Ieee.Float, Int.w128}
use Rattle.interpolator.specs.{DecimalTexts.Spells as IsDecimal, declared.Decimal.Decimal}
use Rattle.words.specs.{Declarations.declaration_of, declared.kinds.Kind.Kind}
use Rattle.words.specs.declared.kinds.Kind.TheVariants as kinds
use Rattle.words.specs.declared.reading.Word.{Word}
use Rattle.words.specs.declared.reading.Word.TheVariants.{Text, Number, Decimal as DecimalWord}
use Rattle.words.specs.declared.reading.Word.TheVariants.{Float as FloatWord, List as ListWord, Bad}

-- what a word that is not bad puts under a name: a text, a whole number, a decimal, a float or
-- the items of a list
pub data Assignment : Type 0 where
  text : (name value : List ℕ) → Assignment
  number : (name : List ℕ) (value : ℤ) → Assignment
  decimal : (name : List ℕ) (value : Decimal) → Assignment
  float : (name : List ℕ) (value : Float) → Assignment
  list : (name items : List ℕ) → Assignment

-- the assignment of a `Word`, borrows aside: `None` for `Bad`
abbrev pub assignment_of : Word → Option Assignment
assignment_of (Text name value) = Some (text name.now value.now)
assignment_of (Number name value) = Some (number name.now value)
assignment_of (DecimalWord name value) = Some (decimal name.now value)
assignment_of (FloatWord name value) = Some (float name.now value)
assignment_of (ListWord name items) = Some (list name.now items.now)
assignment_of Bad = None

-- `=`
abbrev pub is_equals : ℕ → Bool
is_equals b = b == 61

-- an `=` is in the word
abbrev pub HasEquals : List ℕ → Type 0
HasEquals word = position_or_len is_equals word < length word

-- an optional `-`, then one or more ASCII digits, which write this number of 128 bits
pub record Spells (whole : List ℕ) (value : ℤ) : Type 0 where
  pub digits : List ℕ
  pub numeral : IsNumeral 10 digits
  pub sign : ((whole ≡ digits) × (value ≡ pos (digits_value 10 digits)))
      ⊎ ((whole ≡ codes "-" ++ digits) × (value ≡ neg_ℤ (pos (digits_value 10 digits))))
  pub fits : FitsSigned w128 value

-- the text writes this float of 64 bits, as std parses one: a number rounded once, `inf` or `nan`
abbrev pub IsFloat : (whole : List ℕ) → Float → Type 0
IsFloat whole value = parse_float binary64 whole ≡ Some value

-- an assignment is of what a text spells
abbrev pub IsSpelled : {A : Type 0} → (Spelled : A → Type 0) → (made : A → Assignment)
    → Assignment → Type 0
IsSpelled {A} Spelled made assignment = (value : A) × Spelled value × (assignment ≡ made value)

-- what a name of a kind means before a text: what it spells, the items of a list, or the text
abbrev pub MeanAs : Kind → (name right : List ℕ) → Assignment → Type 0
MeanAs kinds.Text name right assignment = assignment ≡ text name right
MeanAs kinds.Number name right assignment =
    IsSpelled (Spells right) (λ value. number name value) assignment
MeanAs kinds.Decimal name right assignment =
    IsSpelled (IsDecimal right) (λ value. decimal name value) assignment
MeanAs kinds.Float name right assignment =
    IsSpelled (IsFloat right) (λ value. float name value) assignment
MeanAs kinds.List name right assignment = assignment ≡ list name right

-- what the parts before and after the `=` mean
abbrev pub PartsMean : (left right : List ℕ) → Assignment → Type 0
PartsMean left right assignment =
    MeanAs (declaration_of left).1 (declaration_of left).0 right assignment

-- what a word means, by the parts around its first `=`
abbrev pub Means : (word : List ℕ) → Assignment → Type 0
Means word assignment = HasEquals word
    × PartsMean (before_first is_equals word) (after_first is_equals word) assignment

-- a word that means something
abbrev pub IsGood : List ℕ → Type 0
IsGood word = (assignment : Assignment) × Means word assignment

-- a `Word` says what the word means, and `Bad` that it means nothing
abbrev pub Classifies : List ℕ → Word → Type 0
Classifies word classified =
    (assignment : Assignment) → Means word assignment ↔ (assignment_of classified ≡ Some assignment)
