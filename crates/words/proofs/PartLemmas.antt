-- What the two parts of a word mean, and whether a word means anything.
use Rattle.std.proofs.Common.{◌≡◌, ◌↔◌, refl, List, ℕ, Option, None, Some, option_map, Result, Ok}
use Rattle.std.proofs.Common.{Err}
use Rattle.std.specs.{Float.binary64, Float.Parse.IsParseFloatResult, Float.Ieee.Float}
use Rattle.std.specs.Result.{result_ok}
use Rattle.words.specs.declared.reading.Word.{Word}
use Rattle.words.specs.declared.reading.Word.TheVariants.{Text, Number, Decimal as DecimalWord}
use Rattle.words.specs.declared.reading.Word.TheVariants.{Float as FloatWord, List as ListWord, Bad}
use Rattle.words.specs.Words.{Assignment, Classifies, IsFloat, IsGood, IsSpelled}

-- parts mean what the second spells, if it spells anything
pub spelled_alone : {A : Type 0} (Spelled : A → Type 0) (made : A → Assignment) (found : Option A)
    → ((value : A) → Spelled value ↔ (found ≡ Some value)) → (assignment : Assignment)
    → IsSpelled Spelled made assignment ↔ (option_map made found ≡ Some assignment)
spelled_alone Spelled made None spells assignment =
    (λ meant. let same = (spells meant.0).0 meant.1 in cc, λ same. cc)
spelled_alone Spelled made (Some value) spells assignment = (
  λ meant. let same = (spells meant.0).0 meant.1 in cc,
  λ same. let is : assignment ≡ made value = cc in (value, (spells value).1 refl, is),
)

-- parts that mean one assignment
pub alone : (only assignment : Assignment)
    → (assignment ≡ only) ↔ (Some only ≡ Some assignment)
alone only assignment = (λ same. cc, λ same. cc)

-- what was parsed is what a text spells, if it spells anything
pub parsed_alone : {A E : Type 0} (Spelled : A → Type 0) (parsed : Result A E)
    → ((value : A) → Spelled value ↔ (parsed ≡ Ok value)) → (value : A)
    → Spelled value ↔ (result_ok parsed ≡ Some value)
parsed_alone Spelled (Ok this) spells value = (
  λ spelled. let same = (spells value).0 spelled in cc,
  λ same. let is : Ok this ≡ Ok value = cc in (spells value).1 is,
)
parsed_alone Spelled (Err error) spells value =
    (λ spelled. let same = (spells value).0 spelled in cc, λ same. cc)

-- and what std parsed is the float that a text writes, if it writes one
pub float_alone : {E : Type 0} (text : List ℕ) (parsed : Result Float E)
    → IsParseFloatResult binary64 text parsed → (value : Float)
    → IsFloat text value ↔ (result_ok parsed ≡ Some value)
float_alone text (Ok this) writes value = (λ same. cc, λ same. cc)
float_alone text (Err error) writes value = (λ same. cc, λ same. cc)

-- a word that is not classified as bad means something
pub good_unless_bad : (word : List ℕ) (result : Word) → Classifies word result
    → (result ≡ Bad → ⊥) → IsGood word
good_unless_bad word Bad means not_bad = absurd (not_bad refl)
good_unless_bad word (Text _ _) means not_bad = (_, (means _).1 refl)
good_unless_bad word (Number _ _) means not_bad = (_, (means _).1 refl)
good_unless_bad word (DecimalWord _ _) means not_bad = (_, (means _).1 refl)
good_unless_bad word (FloatWord _ _) means not_bad = (_, (means _).1 refl)
good_unless_bad word (ListWord _ _) means not_bad = (_, (means _).1 refl)

-- and one that is classified as bad does not
pub bad_is_not_good : (word : List ℕ) → Classifies word Bad → ¬ (IsGood word)
bad_is_not_good word means good = let same = (means good.0).0 good.1 in cc
