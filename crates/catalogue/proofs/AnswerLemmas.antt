-- The answer, once the lines are sound, from the line that was found and what the words give.
use Rattle.std.proofs.Common.{◌≡◌, ◌⊎◌, refl, inr, arith, ℕ, List, Option, None, Some, All}
use Rattle.std.proofs.Common.{option_map}
use Rattle.std.specs.declared.string.String.{String}
use Rattle.interpolator.specs.Faults.{Answer as Reply, Fault, answer_place, fault, no_memory}
use Rattle.interpolator_escapes.specs.declared.escape.Escape.{Escape}
use Rattle.catalogue.specs.Declarations.{Declared, nothing, these, broken}
use Rattle.catalogue.specs.Files.{Line, Page}
use Rattle.catalogue.specs.Messages.{Answers, IsMadeOrReported, OfLine, Replies}
use Rattle.catalogue.specs.declared.messages.Answer.TheVariants.{Message, Faults, Absent, BadWord}
use Rattle.catalogue.specs.{Entries.Held, Picks.ArePicked, Sound.IsSoundOver, Objects.IsGiven}
use Rattle.catalogue.specs.{declared.entries.Object.Object, declared.messages.Answer.Answer}
use Rattle.catalogue.proofs.KindLemmas.{ByKind, MeansNone, SameFaults, none_fails}

-- a fault that has a place, as a call told it, is the fault of what it means
pub reported_fault : (a : Reply) (o : Option Fault) (place : ℕ) → Some place ≡ answer_place a
    → (a ≡ no_memory) ⊎ (Some a ≡ option_map fault o) → (f : Fault) × (a ≡ fault f) × (o ≡ Some f)
reported_fault no_memory o place has h = absurd (cc has)
reported_fault (fault f) o place has h = (f, refl, grind (arith, h))

-- the message of a sound line, or its fault, is a reply
module _ (by_kind : ByKind) (none : MeansNone) (same : SameFaults) (escape : Option Escape)
    (line : Line) (key format : List ℕ) where
  pub replies_made : (declared : Declared) (values : List Object) (held : List Held)
      (answer : Answer) → IsSoundOver declared format → All IsGiven values
      → ArePicked declared values held → IsMadeOrReported escape line format held answer
      → Replies escape answer None line key declared format values
  replies_made declared values held (Message m) sound given are h =
      record { held = held; are = are; made = h }
  replies_made nothing values held (Faults reported) sound given are h = inr (refl, rw (← are) h)
  replies_made (these ds) values held (Faults reported) sound given are h =
      absurd (let no = none_fails by_kind none same escape format ds values held sound given are in
      let some = h.faulty in cc)
  replies_made (broken at) values held (Faults reported) sound given are h = absurd sound
  replies_made declared values held (Absent reported) sound given are h = absurd h
  replies_made declared values held (BadWord w) sound given are h = absurd h

-- what the line comes to is the answer
pub answers_line : {Y : Type 0} (escape : Option Escape) (files : List Page)
    (key : List ℕ) (words : List (String Y)) (answer : Answer)
    → OfLine escape files key words answer → Answers escape files key words answer
answers_line escape files key words (Message m) h = h
answers_line escape files key words (Faults reported) h = inr h
answers_line escape files key words (Absent reported) h = absurd h.replies
answers_line escape files key words (BadWord w) h = absurd h.replies
