-- The assignments that a word may make.
use Rattle.strangers.specs.{Words.Holds, Words.IsTaken, declared.values.Word.Word}
use Rattle.words.specs.Words.{Assignment, text, number, decimal, float, list}

-- what a word has is an assignment that a word may make
pub taken_if_held : (assignment : Assignment) (word : Word) → Holds assignment word → IsTaken assignment
taken_if_held (text _ _) word held = tt
taken_if_held (number _ _) word held = tt
taken_if_held (decimal _ _) word held = tt
taken_if_held (list _ _) word held = tt
taken_if_held (float _ _) word held = held
