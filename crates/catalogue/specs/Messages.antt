-- What the program answers: a message, or what is wrong. Texts are bytes.
use Rattle.std.specs.Prelude.{◌≡◌, ◌⊎◌, ℕ, ◌<◌, List, [], length, map, string_bytes, Option, None}
use Rattle.std.specs.Prelude.{Some, Result, Ok, Err}
use Rattle.std.specs.List.{All, AllZip}
use Rattle.std.specs.{Str.chars, declared.string.String.String, declared.vec.Vec.Vec}
use Rattle.interpolator.specs.{Places.outermost, Faults.Fault, Faults.fault}
use Rattle.interpolator.specs.{Meaning.Environments.environment, Meaning.Meanings.Meaning}
use Rattle.interpolator.specs.{Meaning.Meanings.means, Meaning.Outcomes.Formats, Views.Shown}
use Rattle.interpolator.specs.{declared.Spec.Spec, declared.Trait.Trait}
use Rattle.interpolator_escapes.specs.{Formats.escaped_shows, declared.escape.Escape.Escape}
use Rattle.catalogue.specs.Entries.{Held, found_by, held_by}
use Rattle.catalogue.specs.Picks.{ArePicked, IsLacking, report_of_missing_word}
use Rattle.catalogue.specs.FileReports.{report_of_absent, report_of_fault, report_of_files}
use Rattle.catalogue.specs.declared.messages.Answer.TheVariants.{Message, Faults, Absent, BadWord}
use Rattle.catalogue.specs.{Declarations.Declared, Declarations.nothing, Examples.view_shows}
use Rattle.catalogue.specs.{Files.Line, Files.Page, Sought.Known, Sought.found_among}
use Rattle.catalogue.specs.{Sound.IsSoundFile, Objects.Gives, Objects.IsFirstBad}
use Rattle.catalogue.specs.{declared.entries.Object.Object, declared.messages.Answer.Answer}
use Rattle.words.specs.declared.Kind.{Kind}

-- what values show in a message: escaped, if that is asked for
abbrev pub escaped_by : {X : Type 0} → Option Escape → (shows : X → Trait → Spec → Shown)
    → X → Trait → Spec → Shown
escaped_by None shows = shows
escaped_by (Some escape) shows = escaped_shows escape shows

-- what a format means with these values under names
abbrev pub message_means : Option Escape → List ℕ → List Held → Meaning
message_means escape format held =
    means (escaped_by escape view_shows) (environment (found_by held)) (outermost (chars format))

-- what is reported of a format's fault: the fault as it is shown in its line
pub record IsReportedOf (escape : Option Escape) (line : Line) (format : List ℕ) (held : List Held)
    (reported : List ℕ) : Type 0 where
  pub f : Fault
  pub faulty : (message_means escape format held).fault ≡ Some f
  pub says : reported ≡ report_of_fault line format (fault f)

-- a message is what its format means, without fault; or its fault is reported
abbrev pub IsMadeOrReported : Option Escape → Line → (format : List ℕ) → List Held → Answer → Type 0
IsMadeOrReported escape line format held (Message message) =
    Formats (message_means escape format held) (Ok message)
IsMadeOrReported escape line format held (Faults reported) =
    IsReportedOf escape line format held (string_bytes reported)
IsMadeOrReported escape line format held (Absent reported) = ⊥
IsMadeOrReported escape line format held (BadWord word) = ⊥

-- a message is made with what is picked of objects for what its line declares
pub record IsMade {Z : Type 0} (escape : Option Escape) (format : List ℕ) (declared : Declared)
    (objects : List Object) (message : String Z) : Type 0 where
  pub held : List Held
  pub are : ArePicked declared objects held
  pub made : Formats (message_means escape format held) (Ok message)

-- what is reported of a declaration for which nothing is picked
pub record IsReportedLacking (line : Line) (key : List ℕ) (declared : Declared)
    (objects : List Object) (reported : List ℕ) : Type 0 where
  pub lacking : List ℕ × Kind
  pub first : IsLacking declared objects lacking
  pub says : reported ≡ report_of_missing_word line key lacking

-- what the line that was found comes to: the message; the value that it lacks, or its fault, if it
-- declares nothing; or that what chooses its form is missing
abbrev pub Replies : Option Escape → Answer → Option (List ℕ × Kind) → Line → (key : List ℕ)
    → Declared → (format : List ℕ) → List Object → Type 0
Replies escape (Message message) None line key declared format objects =
    IsMade escape format declared objects message
Replies escape (Faults reported) None line key declared format objects =
    IsReportedLacking line key declared objects (string_bytes reported)
    ⊎ ((declared ≡ nothing)
    × IsReportedOf escape line format (map held_by objects) (string_bytes reported))
Replies escape (Faults reported) (Some lacking) line key declared format objects =
    string_bytes reported ≡ report_of_missing_word line key lacking
Replies escape (Message message) (Some lacking) line key declared format objects = ⊥
Replies escape (Absent reported) lacks line key declared format objects = ⊥
Replies escape (BadWord word) lacks line key declared format objects = ⊥

-- each word gives an object
abbrev pub GiveValues : {Y : Type 0} → List (String Y) → List Object → Type 0
GiveValues words objects =
    AllZip (λ word object. Gives (string_bytes word) object) words objects

-- the objects of what words give: none, if a word gives nothing
abbrev pub given : {X Z : Type 0} → Result (Vec Object Z) X → List Object
given (Ok objects) = objects.items
given (Err bad) = []

module _ {Y : Type 0} (escape : Option Escape) (files : List Page) (key : List ℕ)
    (words : List (String Y)) where
  -- every file is sound, and the answer is what the line comes to with what the words give: the
  -- line of the key, or of its form, in the first file that has it
  pub record OfLine (answer : Answer) : Type 0 where
    pub sound : All IsSoundFile files
    pub values : List Object
    pub given : GiveValues words values
    pub known : Known
    pub under : found_among values key files ≡ Some known
    pub replies : Replies escape answer known.lacks known.line key known.declared known.format
        values

  -- some line is not sound: all faults of all lines of all files are reported
  pub record OfFiles (reported : List ℕ) : Type 0 where
    pub some : 0 < length reported
    pub all : reported ≡ report_of_files files

  -- every file is sound, and none has the key, or the form that what the words give chooses
  pub record OfKey (reported : List ℕ) : Type 0 where
    pub sound : All IsSoundFile files
    pub values : List Object
    pub given : GiveValues words values
    pub none : found_among values key files ≡ None
    pub says : reported ≡ report_of_absent values key files

  -- every file is sound, and this is the first word that gives nothing
  pub record OfWord (word : List ℕ) : Type 0 where
    pub sound : All IsSoundFile files
    pub first : IsFirstBad words word

  -- the answer: the message; a word that gives nothing; or what is wrong with the files, else the
  -- key, or else the line: what is missing for its form, or for it, or the message, if the
  -- line declares nothing
  abbrev pub Answers : Answer → Type 0
  Answers (Message message) = OfLine (Message message)
  Answers (BadWord word) = OfWord (string_bytes word)
  Answers (Absent reported) = OfKey (string_bytes reported)
  Answers (Faults reported) = OfFiles (string_bytes reported) ⊎ OfLine (Faults reported)
