-- Where a text begins with no record, and why.
use Rattle.std.specs.Prelude.{◌≡◌, ◌⊎◌, ℕ, false, List, ◌∷◌, ◌++◌}
use Rattle.records.specs.Marks.{NotFirst, blank, carriage_return, line_feed, quote}
use Rattle.records.specs.Spellings.{AreBlanks, IsPlain, doubled, ends_field}
use Rattle.records.specs.declared.fault.Problem.TheVariants.{AfterQuote, LoneReturn, StrayQuote}
use Rattle.records.specs.declared.fault.Problem.TheVariants.{Unclosed}
use Rattle.records.specs.{Records.Opens, declared.fault.Problem.Problem}
use Rattle.records.specs.declared.separator.Separator.{Separator}

-- a front of a text is a field in quotes, and as long as it can be: at the closing quote no quote
-- is doubled, and no blank follows the front
pub record IsClosed (field front tail : List ℕ) : Type 0 where
  pub before : List ℕ
  pub after : List ℕ
  pub blank_before : AreBlanks before
  pub blank_after : AreBlanks after
  pub is : front ≡ before ++ (quote ∷ (doubled field ++ (quote ∷ after)))
  pub single : NotFirst quote (after ++ tail)
  pub whole : NotFirst blank tail

-- a front of a text could be a field, if the field ended there
abbrev pub CouldEnd : Separator → (front tail : List ℕ) → Type 0
CouldEnd separator front tail =
    IsPlain separator front ⊎ ((field : List ℕ) × IsClosed field front tail)

-- no field begins a text of a front and a tail, for a problem that the tail begins with: a quote
-- that is never closed, or else, where the field should end, a carriage return with no line feed
-- after it, a quote in a field without quotes, or any other character behind the quotes
abbrev pub IsBroken : Separator → Problem → (front tail : List ℕ) → Type 0
IsBroken separator Unclosed front tail =
    AreBlanks front × (content : List ℕ) × (tail ≡ quote ∷ doubled content)
IsBroken separator LoneReturn front tail = CouldEnd separator front tail
    × (more : List ℕ) × (tail ≡ carriage_return ∷ more) × NotFirst line_feed more
IsBroken separator StrayQuote front tail = IsPlain separator front × (¬ AreBlanks front)
    × (more : List ℕ) × (tail ≡ quote ∷ more)
IsBroken separator AfterQuote front tail = (field : List ℕ) × IsClosed field front tail
    × (ends_field separator tail ≡ false) × NotFirst carriage_return tail

-- no record begins a text, for a problem that the tail of the text begins with
pub record Breaks (separator : Separator) (problem : Problem) (text tail : List ℕ) : Type 0 where
  pub before : List (List ℕ)
  pub opening : List ℕ
  pub front : List ℕ
  pub is : text ≡ opening ++ (front ++ tail)
  pub opens : Opens separator before opening
  pub broken : IsBroken separator problem front tail
