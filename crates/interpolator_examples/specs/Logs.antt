-- What a log of records contains.
use Rattle.std.specs.Prelude.{ℕ, List, [], ◌++◌, Option, Some, None, encode_utf8_all, codes}
use Rattle.std.specs.Prelude.{if◌then◌else◌}
use Rattle.std.specs.{Str.bytes_eq, Str.chars, Io.KnownBytes.Appends}
use Rattle.interpolator.specs.Slots.{Slots, empty_slots, with_display}
use Rattle.interpolator.specs.{Places.outermost, Places.text_of, Meaning.Environments.environment}
use Rattle.interpolator.specs.{Meaning.Meanings.means, Views.unsigned_number}
use Rattle.interpolator_examples.specs.declared.users.log_file.Record.{Record}
use Rattle.interpolator_examples.specs.declared.users.log_file.Records.{Records}
use Rattle.interpolator_examples.specs.declared.users.log_file.Records.TheVariants.{End, More'}

-- what a record has under a name
abbrev pub found_in : Record → List ℕ → Option (Slots ℕ)
found_in entry name = if bytes_eq (encode_utf8_all name) (codes "n")
    then Some (with_display empty_slots entry.number) else None

-- the text that a format means for a record
abbrev pub record_text : List ℕ → Record → List ℕ
record_text format entry =
    text_of (means (λ number _ _. unsigned_number number) (environment (found_in entry))
    (outermost (chars format))).text

-- the records' texts, one after the other
abbrev pub log_text : List ℕ → Records → List ℕ
log_text format End = []
log_text format (More' first place rest) = record_text format first ++ log_text format rest

-- a writer of bytes that shows what it contains has what it had, and then exactly this text
abbrev pub GetsTexts : Option (List ℕ) → Option (List ℕ) → List ℕ → Type 0
GetsTexts old new text = Appends old new (encode_utf8_all text)
