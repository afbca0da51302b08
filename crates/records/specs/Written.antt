-- Records as they are written.
use Rattle.std.specs.Prelude.{◌≡◌, ◌≢◌, ◌⊎◌, ℕ, List, [], ◌∷◌, ◌++◌}
use Rattle.records.specs.{Marks.line_feed, Records.Spells, declared.separator.Separator.Separator}

-- bytes are appended to a text
abbrev pub Puts : (old new bytes : List ℕ) → Type 0
Puts old new bytes = new ≡ old ++ bytes

-- a text is a record with these fields and a line feed, which is no blank line; without fields it
-- is empty
abbrev pub IsWritten : Separator → (fields : List (List ℕ)) → (text : List ℕ) → Type 0
IsWritten separator fields text = ((fields ≡ []) × (text ≡ []))
    ⊎ ((line : List ℕ) × (line ≢ []) × Spells separator fields line
    × (text ≡ line ++ (line_feed ∷ [])))
