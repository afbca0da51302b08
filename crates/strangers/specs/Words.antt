-- What words give: a name, and a text, a whole number, a decimal or the items of a list. Texts are
-- bytes.
use Rattle.std.specs.Prelude.{◌≡◌, ◌⊎◌, ⊤, ℕ, List, [], ◌∷◌, map, Option, None, Some}
use Rattle.std.specs.List.{AllZip}
use Rattle.words.specs.Items.{items_of}
use Rattle.words.specs.Words.{Assignment, text, number, decimal, float, list, Means}
use Rattle.strangers.specs.declared.values.Datum.TheVariants.{Text, Number, Decimal as InDecimal}
use Rattle.strangers.specs.declared.values.Given.TheVariants.{One, Many}
use Rattle.strangers.specs.declared.{values.Datum.Datum, values.Given.Given, values.Word.Word}

-- the text that a value is
abbrev pub text_in : Datum → Option (List ℕ)
text_in (Text t) = Some t.now
text_in (Number n) = None
text_in (InDecimal d) = None

-- values that are these texts
abbrev pub are_texts : List (List ℕ) → List (Option (List ℕ))
are_texts texts = map (λ t. Some t) texts

-- a value is the items of a text
abbrev pub AreItems : List ℕ → Given → Type 0
AreItems items (Many values) = map text_in values.items ≡ are_texts (items_of items)
AreItems items (One value) = ⊥

-- a value is a text
abbrev pub IsText : List ℕ → Given → Type 0
IsText bytes (One value) = text_in value ≡ Some bytes
IsText bytes (Many values) = ⊥

-- an assignment that a word may make: a float may have more characters than any limit lets through
abbrev pub IsTaken : Assignment → Type 0
IsTaken (float name value) = ⊥
IsTaken _ = ⊤

-- a word that makes one
abbrev pub IsGood : List ℕ → Type 0
IsGood word = (assignment : Assignment) × Means word assignment × IsTaken assignment

-- a word has the name and the value of an assignment
abbrev pub Holds : Assignment → Word → Type 0
Holds (text name value) word = (word.name.now ≡ name) × IsText value word.given
Holds (number name value) word = (word.name.now ≡ name) × (word.given ≡ One (Number value))
Holds (decimal name value) word = (word.name.now ≡ name) × (word.given ≡ One (InDecimal value))
Holds (float name value) word = ⊥
Holds (list name items) word = (word.name.now ≡ name) × AreItems items word.given

-- what a word gives: what it means
abbrev pub Gives : List ℕ → Word → Type 0
Gives whole word =
    (assignment : Assignment) × Means whole assignment × Holds assignment word

-- these words give these values, one each
abbrev pub GiveAll : List (List ℕ) → List Word → Type 0
GiveAll words read = AllZip Gives words read

-- the first of the words that gives none
abbrev pub IsFirstBad : (words : List (List ℕ)) → (bad : List ℕ) → Type 0
IsFirstBad [] bad = ⊥
IsFirstBad (word ∷ words) bad =
    (IsGood word × IsFirstBad words bad) ⊎ (¬ (IsGood word) × (word ≡ bad))
