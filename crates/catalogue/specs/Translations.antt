-- What is reported of the formats of a PO file's messages and translations. Texts are bytes, and
-- names of arguments are characters.
use Rattle.std.specs.Prelude.{◌≡◌, ◌⊎◌, ⊤, ℕ, Bool, true, false, not, ◌&&◌, ◌||◌, ◌==◌, List, []}
use Rattle.std.specs.Prelude.{◌∷◌, ◌++◌, codes, encode_utf8_all, if◌then◌else◌, length, map, Option}
use Rattle.std.specs.Prelude.{None, Some}
use Rattle.std.specs.{Fmt.decimal, List.list_all, List.list_any, Str.bytes_eq, Str.chars}
use Rattle.interpolator.specs.{Places.outermost, Faults.Answer, Faults.fault}
use Rattle.interpolator.specs.{FaultTexts.answer_text}
use Rattle.interpolator.specs.Template.AllArguments.{arguments_of}
use Rattle.interpolator.specs.declared.Trait.TheVariants.{Display}
use Rattle.interpolator_escapes.specs.declared.{escape.Escape.Escape, misplaced.Misplaced.Misplaced}
use Rattle.interpolator_escapes.specs.{Placing.FailsFor, Placing.StandsFor, PlaceTexts.why_text}
use Rattle.interpolator_syntax.specs.Arguments.{Argument}
use Rattle.interpolator_syntax.specs.SpecTexts.{Kind, of_list, of_value}
use Rattle.po.specs.Sections.{text_of, token_text}
use Rattle.po.specs.{Entries.Entry, declared.token.Placed.Placed}
use Rattle.catalogue.specs.Reported.{Each, IsReportedAt, Nothing, Then, Unless, When}
use Rattle.catalogue.specs.{Declarations.nothing, Examples.faults_of, declared.files.File.File}

-- the arguments of the format that strings make
abbrev pub arguments_in : List Placed → List Argument
arguments_in strings = arguments_of (outermost (chars (text_of strings)))

-- two arguments are the same: they have one name, and the same trait or both a list
abbrev pub IsSameKind : Kind → Kind → Type 0
IsSameKind (of_value one) (of_value other) = one ≡ other
IsSameKind (of_list one) (of_list other) = ⊤
IsSameKind _ _ = ⊥

abbrev pub IsSame : Argument → Argument → Type 0
IsSame one other = (one.name ≡ other.name) × IsSameKind one.kind other.kind

-- one of some arguments is the same as this one
abbrev pub HasSame : List Argument → Argument → Type 0
HasSame [] one = ⊥
HasSame (other ∷ more) one = IsSame one other ⊎ HasSame more one

-- an argument displays an item of a list, which has no name and may always be displayed
abbrev pub no_name : List ℕ
no_name = chars []

abbrev pub IsPlainItem : Argument → Type 0
IsPlainItem one = (one.name ≡ no_name) × (one.kind ≡ of_value Display)

-- an argument of a translation is known: a text of its message has the same, or it is such an item
abbrev pub IsKnown : (id plural : List Argument) → Argument → Type 0
IsKnown id plural one = IsPlainItem one ⊎ (HasSame id one ⊎ HasSame plural one)

-- one of some arguments has a name
abbrev pub has_name : List Argument → List ℕ → Bool
has_name arguments name = list_any (λ one. bytes_eq one.name name) arguments

-- what is reported of an argument that is not known, and of a name that a translation lacks
abbrev pub what_is_other : (is_there : Bool) → (name : List ℕ) → List ℕ
what_is_other is_there name =
    if is_there
    then codes "the message has `{" ++ (encode_utf8_all name ++ codes "}` otherwise")
    else codes "the message has no `{" ++ (encode_utf8_all name ++ codes "}`")

abbrev pub lacking_name : (name : List ℕ) → List ℕ
lacking_name name = codes "the translation lacks `{" ++ (encode_utf8_all name ++ codes "}`")

module _ (file : File) where
  -- what is reported of an argument of a translation: nothing, if it is known
  abbrev pub TellsOther : (id plural : List Argument) → Argument → List ℕ → Type 0
  TellsOther id plural one = Unless (IsKnown id plural one) (IsReportedAt file
      (what_is_other (has_name id one.name || has_name plural one.name) one.name))

  -- what is reported of an argument of a message: that the translation, which has these, lacks it
  abbrev pub TellsLacking : (found : List Argument) → Argument → List ℕ → Type 0
  TellsLacking found one =
      When (not (has_name found one.name)) (IsReportedAt file (lacking_name one.name))

  -- what is reported of a fault of a format
  abbrev pub TellsFault : Answer → List ℕ → Type 0
  TellsFault why = IsReportedAt file (answer_text why)

  -- what is reported of the first value of a format in no place of an escape, if one is asked for
  abbrev pub TellsPlaces : Option Escape → (format : List ℕ) → List ℕ → Type 0
  TellsPlaces None format reported = Nothing reported
  TellsPlaces (Some escape) format reported =
      (StandsFor escape (outermost (chars format)) × Nothing reported)
      ⊎ ((why : Misplaced) × FailsFor escape (outermost (chars format)) why
      × IsReportedAt file (why_text why.why) reported)

  -- what is reported of a format by itself: each of its faults, and that value
  abbrev pub TellsFormat : Option Escape → (format : List ℕ) → List ℕ → Type 0
  TellsFormat escape format =
      Then (Each TellsFault (map fault (faults_of nothing format))) (TellsPlaces escape format)

  -- what is reported of a translation of a message with these arguments
  abbrev pub TellsText : Option Escape → (id plural : List Argument) → List Placed → List ℕ
      → Type 0
  TellsText escape id plural strings = Then (TellsFormat escape (text_of strings))
      (Each (TellsOther id plural) (arguments_in strings))

-- strings make an empty text
abbrev pub is_empty : List Placed → Bool
is_empty strings = list_all (λ one. length (token_text one.token) == 0) strings

-- a message has a translation that counts: it is not fuzzy, and its first form is not empty
abbrev pub has_text : List (List Placed) → Bool
has_text [] = false
has_text (first ∷ more) = not (is_empty first)

abbrev pub is_translated : Entry → Bool
is_translated entry = has_text entry.texts && not entry.fuzzy

-- a message is the head of its file
abbrev pub is_head : Entry → Bool
is_head entry = length entry.context == 0 && is_empty entry.id

module _ (file : File) where
  -- what is reported of the one translation of a message without a plural: each name that it lacks
  abbrev pub TellsSingle : Entry → List (List Placed) → List ℕ → Type 0
  TellsSingle entry (text ∷ []) = When (length entry.plural == 0)
      (Each (TellsLacking file (arguments_in text)) (arguments_in entry.id))
  TellsSingle entry texts = Nothing

  -- what is reported of the translations of a message
  abbrev pub TellsTexts : Option Escape → Entry → List ℕ → Type 0
  TellsTexts escape entry = Then
      (Each (TellsText file escape (arguments_in entry.id) (arguments_in entry.plural)) entry.texts)
      (TellsSingle entry entry.texts)

  -- what is reported of a message: what is wrong with its formats, and with its translations, if
  -- they count
  abbrev pub TellsFormats : Option Escape → Entry → List ℕ → Type 0
  TellsFormats escape entry = Then
      (Then (TellsFormat file escape (text_of entry.id))
      (TellsFormat file escape (text_of entry.plural)))
      (When (is_translated entry) (TellsTexts escape entry))

-- a message with a plural has a translation that counts, of another number of forms than the file
-- tells
abbrev pub has_other_count : (wanted : ℕ) → Entry → Bool
has_other_count wanted entry = is_translated entry
    && (not (length entry.plural == 0) && not (length entry.texts == wanted))

-- what is reported of that, and of a message that stands on a line before
abbrev pub what_is_count : (count wanted : ℕ) → List ℕ
what_is_count count wanted = decimal count
    ++ (codes " of " ++ (decimal wanted ++ codes " forms that Plural-Forms tells"))

abbrev pub what_is_twice : (line : ℕ) → List ℕ
what_is_twice line = codes "line " ++ (decimal line ++ codes " has this message too")

module _ (file : File) where
  -- what is reported of the number of forms of a message
  abbrev pub TellsCount : (wanted : ℕ) → Entry → List ℕ → Type 0
  TellsCount wanted entry = When (has_other_count wanted entry)
      (IsReportedAt file (what_is_count (length entry.texts) wanted))

  -- what is reported of a message that stands twice
  abbrev pub TellsTwice : (is_twice : Bool) → List ℕ → Type 0
  TellsTwice true reported = (line : ℕ) × IsReportedAt file (what_is_twice line) reported
  TellsTwice false reported = Nothing reported
