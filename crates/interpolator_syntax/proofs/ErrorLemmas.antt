-- An error with the bytes of a missing name, and with its characters: both say the same.
use Rattle.std.proofs.Common.{◌≡◌, arith, ℕ, List, string_bytes, encode_utf8_all}
use Rattle.std.proofs.lemmas.Str.{encodes-chars, IsUtf8-string_bytes}
use Rattle.interpolator_syntax.specs.declared.error.Error.{Error}
use Rattle.interpolator_syntax.specs.declared.error.Error.TheVariants.{MissingValue}
use Rattle.interpolator_syntax.specs.Faults.{Answer, fault, missing_value, answer_of}

-- what an error says, with a missing name in bytes
abbrev pub byte_answer_of : Error → Answer
byte_answer_of (MissingValue name place) = fault (missing_value (string_bytes name) place)
byte_answer_of error = answer_of error

-- the missing name of an answer, changed
with_name : (List ℕ → List ℕ) → Answer → Answer
with_name change (fault (missing_value name place)) = fault (missing_value (change name) place)
with_name change answer = answer

bytes_of_answer : (error : Error) →
    byte_answer_of error ≡ with_name encode_utf8_all (answer_of error)
unfolding with_name
bytes_of_answer error = grind (arith, encodes-chars, IsUtf8-string_bytes)

-- answers that are the same in bytes are the same in characters
pub same_answers : (first second : Error) →
    byte_answer_of first ≡ byte_answer_of second → answer_of first ≡ answer_of second
same_answers first second same = grind arith

-- and the other way round
pub same_byte_answers : (first second : Error) →
    answer_of first ≡ answer_of second → byte_answer_of first ≡ byte_answer_of second
same_byte_answers first second same = grind (arith, bytes_of_answer)
