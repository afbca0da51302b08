-- The values that a format gets: for each name that its line declares, that of the last word.
use Rattle.std.specs.Prelude.{◌≡◌, ℕ, List, ◌++◌, codes, Option, Some, map, reverse}
use Rattle.std.specs.{Fmt.decimal, List.AllZip, List.find, Str.bytes_eq}
use Rattle.words.specs.{Declarations.as_declaration, declared.Kind.Kind}
use Rattle.catalogue.specs.Declarations.{Declared, nothing, these, broken}
use Rattle.catalogue.specs.Entries.{Held, held_by, held_by_entry}
use Rattle.catalogue.specs.{Files.Line, Firsts.IsFirstWithout}
use Rattle.words.specs.declared.Kind.TheVariants as kinds
use Rattle.catalogue.specs.declared.picks.Picked.TheVariants.{Values, Lacks}
use Rattle.catalogue.specs.{declared.entries.Object.Object, declared.picks.Picked.Picked}

-- the last object of a name
abbrev pub last_named : List Object → List ℕ → Option Object
last_named objects name = find (λ object. bytes_eq name object.name.now) (reverse objects)

-- an object is picked for a declaration: it is the last of its name, and of its kind
pub record IsPicked (objects : List Object) (declared : List ℕ × Kind) (object : Object)
    : Type 0 where
  pub last : last_named objects declared.0 ≡ Some object
  pub of_kind : object.kind ≡ declared.1

-- some object is picked for a declaration
abbrev pub HasPick : List Object → List ℕ × Kind → Type 0
HasPick objects declared = (object : Object) × IsPicked objects declared object

-- what is held under a name is what is picked for a declaration
pub record HoldsPick (objects : List Object) (declared : List ℕ × Kind) (held : Held) : Type 0 where
  pub object : Object
  pub is : IsPicked objects declared object
  pub holds : held ≡ held_by object

-- what is held under names is what is picked of some objects for what a line declares, in the order
-- of the declarations; or all of them, if it declares nothing, or what is broken
abbrev pub ArePicked : Declared → List Object → List Held → Type 0
ArePicked nothing objects held = held ≡ map held_by objects
ArePicked (these declared) objects held = AllZip (HoldsPick objects) declared held
ArePicked (broken place) objects held = held ≡ map held_by objects

-- the first declaration of a line for which nothing is picked
abbrev pub IsLacking : Declared → List Object → List ℕ × Kind → Type 0
IsLacking nothing objects lacking = ⊥
IsLacking (these declared) objects lacking = IsFirstWithout (HasPick objects) declared lacking
IsLacking (broken place) objects lacking = ⊥

-- entries of what is picked, or the first declaration that lacks it
abbrev pub IsPickedOrLacks : Declared → List Object → Picked → Type 0
IsPickedOrLacks declared objects (Values entries) =
    ArePicked declared objects (map held_by_entry entries.items)
IsPickedOrLacks declared objects (Lacks lacking) =
    IsLacking declared objects (as_declaration lacking)

-- what follows the name in a word
abbrev pub shape_of : Kind → List ℕ
shape_of kinds.Text = codes "=TEXT"
shape_of kinds.Number = codes ":=NUMBER"
shape_of kinds.Decimal = codes ":.=DECIMAL"
shape_of kinds.Float = codes ":~=FLOAT"
shape_of kinds.List = codes "[]=ITEM,ITEM"

-- what is reported of a line's message that lacks a value: the file, the line's number, the key,
-- and which word is missing
abbrev pub report_of_missing_word : Line → List ℕ → List ℕ × Kind → List ℕ
report_of_missing_word line key lacking =
    line.file ++ (codes ":" ++ (decimal line.number ++ (codes ": `" ++ (key ++ (codes "` wants `"
    ++ (lacking.0 ++ (shape_of lacking.1 ++ codes "`\n")))))))
