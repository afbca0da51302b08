-- When a format that is not trusted is written, and why another is not. Formats and texts are bytes.
use Rattle.std.specs.Prelude.{◌≡◌, ◌⊎◌, ◌≤◌, ◌-◌, ◌*◌, ◌^◌, ◌==◌, ◌||◌, ◌<◌, nat_lt, ℕ, Bool, List}
use Rattle.std.specs.Prelude.{[], ◌∷◌, length, min, if◌then◌else◌, Option, None, Some, Result, Ok}
use Rattle.std.specs.Prelude.{Err}
use Rattle.std.specs.{Option.option_map, Option.option_or, Str.chars}
use Rattle.interpolator.specs.Faults.{Answer, Fault, answer_of, fault, no_memory}
use Rattle.interpolator.specs.Meaning.{Environments.environment, Meanings.Meaning, Meanings.means}
use Rattle.interpolator.specs.Meaning.{Work.Work, Work.text_work}
use Rattle.interpolator.specs.Template.{NodeChecks.first_fault, NodeCosts.usize_cost}
use Rattle.interpolator.specs.Template.{NodeCosts.text_cost, NodeSamples.faults_over}
use Rattle.interpolator.specs.declared.{Cost.Cost, Limits.Limits, Spec.Spec, Trait.Trait}
use Rattle.interpolator.specs.{Places.outermost, Places.text_of, Slots.Slots, Views.Shown}
use Rattle.strangers.specs.Values.{characters_of, datum_shows, found_by_words, longest_of}
use Rattle.strangers.specs.{declared.serving.Allowed.Allowed, declared.serving.Count.Count}
use Rattle.strangers.specs.declared.serving.Count.TheVariants as counts
use Rattle.strangers.specs.declared.serving.Refused.TheVariants.{Format, Past}
use Rattle.strangers.specs.declared.values.Given.TheVariants.{One, Many}
use Rattle.strangers.specs.{declared.serving.Refused.Refused, declared.values.Datum.Datum}
use Rattle.strangers.specs.{declared.values.Given.Given, declared.values.Word.Word}

-- ---- what a format means, and what it costs

-- what values show
abbrev pub shows : Datum → Trait → Spec → Shown
shows value _ _ = datum_shows value

-- what is found under names
abbrev pub Names : Type 0
Names = List ℕ → Option (Slots Datum)

-- what a format means, by what is found under names
abbrev pub meaning_over : List ℕ → Names → Meaning
meaning_over format finds = means shows (environment finds) (outermost (chars format))

-- what writing it goes through and holds
abbrev pub work_over : List ℕ → Names → Work
work_over format finds = text_work shows (environment finds) (outermost (chars format))

-- the faults that it has, by itself or with what is found as its sample
abbrev pub faults_with : List ℕ → Names → List Fault
faults_with format finds = faults_over shows finds (outermost (chars format))

-- what it costs at most, as it is reported
abbrev pub reported_cost : Limits → List ℕ → Cost
reported_cost limits format = usize_cost (text_cost limits (outermost (chars format)))

-- ---- why a format is rejected

-- why: an error of the format, or a count that is past its limit
pub data Why : Type 0 where
  failed : Answer → Why
  past : Count → (reported limit : ℕ) → Why

-- why, as it is reported
abbrev pub why_of : Refused → Why
why_of (Format error) = failed (answer_of error)
why_of (Past count reported limit) = past count reported limit

-- what a test reported, if it rejects
abbrev pub why_in : Result (Unit {0}) Refused → Option Why
why_in (Ok _) = None
why_in (Err refused) = Some (why_of refused)

-- a count is past its limit; the greatest `usize` means as many or more, and is past every limit
abbrev pub is_past : (reported limit : ℕ) → Bool
is_past reported limit = nat_lt limit reported || reported == 2 ^ 64 - 1

-- a count of a cost is rejected
abbrev pub count_why : Count → (reported limit : ℕ) → Option Why
count_why count reported limit = if is_past reported limit then Some (past count reported limit) else None

-- a count of values is rejected
abbrev pub value_why : Count → (reported limit : ℕ) → Option Why
value_why count reported limit = if nat_lt limit reported then Some (past count reported limit) else None

-- what a word gives is rejected: a text or a decimal that is too long; a list with too many items,
-- or else for the longest text among them
abbrev pub given_why : Limits → Given → Option Why
given_why limits (One value) = value_why counts.Text (characters_of value) limits.text
given_why limits (Many values) =
    option_or (value_why counts.Items (length values.items) limits.items)
    (value_why counts.Text (longest_of values.items) limits.text)

-- words are rejected for the first that is
abbrev pub words_why : Limits → List Word → Option Why
words_why limits [] = None
words_why limits (word ∷ words) = option_or (given_why limits word.given) (words_why limits words)

-- a format is rejected for the first of its faults
abbrev pub fault_why : List Fault → Option Why
fault_why fs = option_map (λ f. failed (fault f)) (first_fault fs)

-- a cost is rejected for the first of its counts that is past its limit: characters, then pieces,
-- then buffered characters
abbrev pub cost_why : (most cost : Cost) → Option Why
cost_why most cost = option_or (count_why counts.Characters cost.characters most.characters)
    (option_or (count_why counts.Pieces cost.pieces most.pieces)
    (count_why counts.Buffered cost.buffered most.buffered))

-- a format is rejected for a fault, or else for its cost
abbrev pub format_why : Allowed → List ℕ → Names → Option Why
format_why allowed format finds = option_or (fault_why (faults_with format finds))
    (cost_why allowed.most (reported_cost allowed.values format))

-- a format over words is rejected for these words, or else by itself
abbrev pub first_why : Allowed → List ℕ → List Word → Option Why
first_why allowed format words = option_or (words_why allowed.values words)
    (format_why allowed format (found_by_words words))

-- what is reported is why, or that memory was refused
abbrev pub Rejects : Option Why → Refused → Type 0
Rejects why refused = (why_of refused ≡ failed no_memory) ⊎ (why ≡ Some (why_of refused))

-- ---- when it is written

-- the bytes that so many characters have at most; the greatest `usize` means as many or more
abbrev pub bytes_for : (characters : ℕ) → ℕ
bytes_for characters = min (characters * 4) (2 ^ 64 - 1)

-- the whole text of a format, by its characters, without fault
pub record IsWhole (format : List ℕ) (finds : Names) (text : List ℕ) : Type 0 where
  pub faultless : (meaning_over format finds).fault ≡ None
  pub whole : text ≡ text_of (meaning_over format finds).text

-- a count is reported exactly, and is within its limit
abbrev pub IsWithin : (reported limit : ℕ) → Type 0
IsWithin reported limit = (reported ≤ limit) × (reported < 2 ^ 64 - 1)

-- a cost is within limits
pub record Affords (most cost : Cost) : Type 0 where
  pub characters : IsWithin cost.characters most.characters
  pub pieces : IsWithin cost.pieces most.pieces
  pub buffered : IsWithin cost.buffered most.buffered

-- a format is served: nothing rejects it, and its text is written whole, within the cost that is
-- reported of it, which is within the limits; its bytes are within the memory for that cost
pub record IsServed (allowed : Allowed) (format : List ℕ) (words : List Word) (text : List ℕ)
    : Type 0 where
  pub accepted : first_why allowed format words ≡ None
  pub written : IsWhole format (found_by_words words) (chars text)
  pub characters : length (chars text) ≤ (reported_cost allowed.values format).characters
  pub bytes : length text ≤ bytes_for (reported_cost allowed.values format).characters
  pub pieces : (work_over format (found_by_words words)).pieces
      ≤ (reported_cost allowed.values format).pieces
  pub buffered : (work_over format (found_by_words words)).held
      ≤ (reported_cost allowed.values format).buffered
  pub afforded : Affords allowed.most (reported_cost allowed.values format)
