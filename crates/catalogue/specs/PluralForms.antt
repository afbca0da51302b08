-- The header of a PO file, and which form of a message a number chooses. Texts are bytes.
use Rattle.std.specs.Prelude.{◌≡◌, ◌<◌, ◌≤◌, ℕ, ◌==◌, ◌||◌, List, [], ◌∷◌, if◌then◌else◌, length}
use Rattle.std.specs.Prelude.{slice_get, Option, None, Some, Result, Ok, Err}
use Rattle.std.specs.Option.{unwrap_or}
use Rattle.plurals.specs.{Readings.tree_at, Trees.Tree, Values.value_by, declared.fault.Fault.Fault}
use Rattle.po.specs.{Entries.Entry, declared.token.Placed.Placed}
use Rattle.catalogue.specs.{Forms.first_given, Translations.is_head, Translations.is_translated}

-- the first of some texts
abbrev pub first_text : List (List Placed) → Option (List Placed)
first_text [] = None
first_text (text ∷ more) = Some text

-- the header of a file: the translation of the first head that has one
abbrev pub header_in : Entry → Option (List Placed)
header_in entry = if is_head entry then first_text entry.texts else None

abbrev pub header_of : List Entry → List Placed
header_of entries = unwrap_or (first_given header_in entries) []

-- what a rule gives for a number, whatever its name; 0, if it is broken
abbrev pub value_for : (number : ℕ) → Result Tree Fault → ℕ
value_for number (Ok tree) = value_by (λ name. Some number) (λ name. None) tree
value_for number (Err fault) = 0

-- the form that a rule chooses of a message for a number: the only one of one without a plural
abbrev pub index_of : (rule : List ℕ) → Entry → (number : ℕ) → ℕ
index_of rule entry number =
    if length entry.plural == 0 then 0 else value_for number (tree_at rule)

-- the text of a message for a number, as it stands for English
abbrev pub own_text : Entry → (number : ℕ) → List Placed
own_text entry number =
    if length entry.plural == 0 || number == 1 then entry.id else entry.plural

-- its translation for a number; its own text, if it has no translation that counts, or no such form
abbrev pub form_of : (rule : List ℕ) → Entry → (number : ℕ) → List Placed
form_of rule entry number =
    if is_translated entry
    then unwrap_or (slice_get entry.texts (index_of rule entry number)) (own_text entry number)
    else own_text entry number

-- a rule gives forms that there are for all numbers below this one
abbrev pub AreBelow : (count limit : ℕ) → Tree → Type 0
AreBelow count limit tree = (n : ℕ) → n < limit → value_for n (Ok tree) < count

-- the first number for which it gives another, and what it gives
pub record IsFirstBeyond (count : ℕ) (tree : Tree) (found : ℕ × ℕ) : Type 0 where
  pub small : found.0 ≤ 1000
  pub first : AreBelow count found.0 tree
  pub value : found.1 ≡ value_for found.0 (Ok tree)
  pub beyond : count ≤ found.1
