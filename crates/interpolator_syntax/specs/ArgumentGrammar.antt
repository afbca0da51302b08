-- An argument by its parts, one after the other, each at its place; and why no argument begins.
use Rattle.std.specs.Prelude.{◌≡◌, ◌⊎◌, ℕ, ◌+◌, List, [], ◌∷◌, ◌++◌}
use Rattle.interpolator_syntax.specs.Classes.{close_brace, colon, in_class}
use Rattle.interpolator_syntax.specs.Faults.{Fault, parse, unclosed}
use Rattle.interpolator_syntax.specs.{Places.At, Places.size, SpecTexts.Request}
use Rattle.interpolator_syntax.specs.{SpecTexts.plain_display}
use Rattle.interpolator_syntax.specs.{Arguments.Argument, Grammar.IsLongest, GrammarParts.IsFirst}
use Rattle.interpolator_syntax.specs.{GrammarParts.Lies, SpecGrammar.IsSpec, SpecGrammar.IsNoSpec}
use Rattle.interpolator_syntax.specs.declared.class.Class.TheVariants.{WhiteSpace}
use Rattle.interpolator_syntax.specs.declared.class.Class.TheVariants.{Name}

-- after all the white space at a comes the name, at p, up to the first `:` or `}`, and after it
-- the text at b
pub record IsNamed (a : At) (name : List ℕ) (p : ℕ) (b : At) : Type 0 where
  pub spaces : List ℕ
  pub white : IsLongest (in_class WhiteSpace) a.text spaces (name ++ b.text)
  pub named : IsLongest (in_class Name) (name ++ b.text) name b.text
  pub name_place : p ≡ a.place + size spaces
  pub end_place : b.place ≡ p + size name

-- after the name, in the argument that begins at `start`: a `}`, which stands for plain display
-- and is not read; or a `:`, and the spec after it
abbrev pub Asks : (start : ℕ) → (b : At) → (x : Request) → (end : At) → Type 0
Asks start b x end =
    (IsFirst close_brace b.text × (x ≡ plain_display) × (end ≡ b))
    ⊎ ((m : At) × Lies b (colon ∷ []) m × IsSpec start m x end)

-- after the name there is no request: the text ends, or no spec follows a `:`
abbrev pub AsksNothing : (start : ℕ) → (b : At) → (f : Fault) → Type 0
AsksNothing start b f =
    ((b.text ≡ []) × (f ≡ parse (unclosed start)))
    ⊎ ((m : At) × Lies b (colon ∷ []) m × IsNoSpec start m f)

-- the request of an argument
abbrev pub request_in : Argument → Request
request_in x = record { spec = x.spec; kind = x.kind }

-- the argument x begins at a, and after it comes the text at `end`
pub record IsArgument (a : At) (x : Argument) (end : At) : Type 0 where
  pub after : At
  pub named : IsNamed a x.name x.name_place after
  pub asks : Asks a.place after (request_in x) end

-- no argument begins at a, for this reason
pub record IsNoArgument (a : At) (f : Fault) : Type 0 where
  pub name : List ℕ
  pub name_place : ℕ
  pub after : At
  pub named : IsNamed a name name_place after
  pub refused : AsksNothing a.place after f
