-- How a record is spelled: its fields, with a separator between each two, and then a line end.
use Rattle.std.specs.Prelude.{◌≡◌, ◌⊎◌, ℕ, List, [], ◌∷◌, ◌++◌}
use Rattle.records.specs.Marks.{byte_of, carriage_return, line_feed}
use Rattle.records.specs.{Spellings.IsSpelled, declared.separator.Separator.Separator}

-- a text is these fields, with a separator after each
abbrev pub Opens : Separator → (fields : List (List ℕ)) → (text : List ℕ) → Type 0
Opens separator [] text = text ≡ []
Opens separator (field ∷ fields) text = (written : List ℕ) × (rest : List ℕ)
    × (text ≡ written ++ (byte_of separator ∷ rest)) × IsSpelled separator field written
    × Opens separator fields rest

-- a text is these fields, with a separator after each but the last
pub record Spells (separator : Separator) (fields : List (List ℕ)) (text : List ℕ) : Type 0 where
  pub before : List (List ℕ)
  pub last : List ℕ
  pub all : fields ≡ before ++ (last ∷ [])
  pub opening : List ℕ
  pub written : List ℕ
  pub is : text ≡ opening ++ written
  pub opens : Opens separator before opening
  pub ends : IsSpelled separator last written

-- after a record comes nothing, or a line end and the rest of the text
abbrev pub EndsLine : (tail rest : List ℕ) → Type 0
EndsLine tail rest = ((tail ≡ []) × (rest ≡ [])) ⊎ (tail ≡ line_feed ∷ rest)
    ⊎ (tail ≡ carriage_return ∷ line_feed ∷ rest)

-- a record with these fields begins a text, and leaves a rest
pub record Begins (separator : Separator) (fields : List (List ℕ)) (text rest : List ℕ) : Type 0
  where
    pub written : List ℕ
    pub tail : List ℕ
    pub is : text ≡ written ++ tail
    pub spells : Spells separator fields written
    pub ends : EndsLine tail rest
