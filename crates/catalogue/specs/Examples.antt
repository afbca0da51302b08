-- An example of what a line declares, and the faults that its format has with that.
use Rattle.std.specs.Prelude.{ℕ, Bool, true, false, pos, List, [], ◌∷◌, map}
use Rattle.std.specs.Str.{chars}
use Rattle.interpolator.specs.Faults.{Answer, Fault, fault, no_memory, parse, unsupported_option}
use Rattle.interpolator.specs.declared.View.TheVariants.{Character, Decimal, Signed}
use Rattle.interpolator.specs.Template.{NodeChecks.text_faults, NodeSamples.faults_over}
use Rattle.interpolator.specs.declared.{Bits.TheVariants.B128, Spec.Spec, Trait.Trait, View.View}
use Rattle.interpolator.specs.{Places.outermost, Slots.Slots, Views.Shown, Views.shown_as_value}
use Rattle.catalogue.specs.Declarations.{Declared, nothing, these, broken}
use Rattle.catalogue.specs.Entries.{Held, found_by, slots_by}
use Rattle.words.specs.{Lists.item_slots, declared.Kind.Kind}
use Rattle.words.specs.declared.Kind.TheVariants as kinds

-- what a view shows as a value, whatever the trait and the spec
abbrev pub view_shows : View → Trait → Spec → Shown
view_shows view t spec = shown_as_value view

-- an example of a text: a character, which has a text under the same traits as any text
abbrev pub text_example : View
text_example = Character 97

-- an example of a value of a kind; a float has a text under the same traits as a
-- decimal, and of a list it does not count
abbrev pub example : Kind → View
example kinds.Text = text_example
example kinds.Number = Signed (pos 0) B128
example kinds.Decimal = Decimal (pos 0) 0
example kinds.Float = Decimal (pos 0) 0
example kinds.List = text_example

-- the slots of an example of a kind: a list has one item
abbrev pub example_slots : Kind → Slots View
example_slots kind = slots_by kind (example kind) (item_slots (text_example ∷ []))

-- an example of a declaration, under its name
abbrev pub example_of : List ℕ × Kind → Held
example_of declared = (declared.0, example_slots declared.1)

-- the faults that a format has with examples of some declarations
abbrev pub example_faults : List (List ℕ × Kind) → List ℕ → List Fault
example_faults declared format =
    faults_over view_shows (found_by (map example_of declared)) (outermost (chars format))

-- the faults of a format: by itself, if nothing is declared, or with examples of what is declared
abbrev pub faults_of : Declared → List ℕ → List Fault
faults_of nothing format = text_faults (outermost (chars format))
faults_of (these declared) format = example_faults declared format
faults_of (broken place) format = []

-- a format has a fault by itself
abbrev pub is_own : Fault → Bool
is_own (parse f) = true
is_own (unsupported_option option feature place) = true
is_own _ = false

abbrev pub is_own_reply : Answer → Bool
is_own_reply (fault f) = is_own f
is_own_reply no_memory = false
