-- The answer to a command line. Texts are bytes.
use Rattle.std.specs.Prelude.{◌≡◌, ℕ, List, None, Some, string_bytes}
use Rattle.strangers.specs.Serving.{IsServed, Rejects, first_why}
use Rattle.strangers.specs.declared.answering.Answer.TheVariants.{Text, Refused, BadWord, BadUse}
use Rattle.strangers.specs.{Reading.Asked, Reading.asked_by, Words.GiveAll, Words.IsFirstBad}
use Rattle.strangers.specs.{declared.answering.Answer.Answer, declared.values.Word.Word}

-- a line has this request, and its words give these values
abbrev pub IsRead : List (List ℕ) → Asked → List Word → Type 0
IsRead line asked read = (asked_by line ≡ Some asked) × GiveAll asked.2 read

-- the answer to a line: the text of its format, with what its words give and within its limits; or
-- why that is rejected; or its first word that gives nothing; or that it has no request
abbrev pub IsAnswer : List (List ℕ) → Answer → Type 0
IsAnswer line (Text text) =
    (asked : Asked) × (read : List Word) × IsRead line asked read
    × IsServed asked.0 asked.1 read (string_bytes text)
IsAnswer line (Refused refused) =
    (asked : Asked) × (read : List Word) × IsRead line asked read
    × Rejects (first_why asked.0 asked.1 read) refused
IsAnswer line (BadWord word) =
    (asked : Asked) × (asked_by line ≡ Some asked) × IsFirstBad asked.2 (string_bytes word)
IsAnswer line BadUse = asked_by line ≡ None
