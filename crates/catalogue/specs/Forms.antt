-- The form of a message, which the rule of a file chooses by numbers and texts. Texts are bytes.
use Rattle.std.specs.Prelude.{ℕ, List, [], ◌∷◌, ◌++◌, codes, Option, None, Some, Result, Ok, Err}
use Rattle.std.specs.Prelude.{string_bytes}
use Rattle.std.specs.Option.{option_map, option_or}
use Rattle.plurals.specs.Values.{as_form, form_by, missing_in}
use Rattle.plurals.specs.{Readings.tree_at, Trees.Tree, declared.fault.Fault.Fault}
use Rattle.catalogue.specs.Rules.{declared_for, numbers_of, rule_in, texts_of}
use Rattle.catalogue.specs.{declared.entries.Object.Object, declared.forms.Choice.Choice}
use Rattle.catalogue.specs.declared.forms.Sought.{Sought}
use Rattle.words.specs.{Declarations.as_declaration, declared.Kind.Kind}

-- the first of what some things give
abbrev pub first_given : {A B : Type 0} → (A → Option B) → List A → Option B
first_given gives [] = None
first_given gives (x ∷ xs) = option_or (gives x) (first_given gives xs)

-- a form, or a key; and what is missing for the tests by which it is chosen, a number or a text
abbrev pub Chosen : Type 0
Chosen = List ℕ × Option (List ℕ × Kind)

abbrev pub as_choice : Choice → Chosen
as_choice choice = (as_form choice.form, option_map as_declaration choice.lacks)

-- the key that is looked up, and what is missing for it
abbrev pub as_sought : Sought → Chosen
as_sought sought = (string_bytes sought.key, option_map as_declaration sought.lacks)

-- what a rule chooses, if it is whole
abbrev pub chosen_by : List Object → Result Tree Fault → Option Chosen
chosen_by objects (Ok tree) = option_map (λ form. (
  form,
  option_map declared_for
      (missing_in (numbers_of objects) (texts_of objects) tree),
))
    (form_by (numbers_of objects) (texts_of objects) tree)
chosen_by objects (Err fault) = None

abbrev pub choice_of : List Object → List ℕ → Option Chosen
choice_of objects rule = chosen_by objects (tree_at rule)

-- the rule of a file: that of its first line that has one
abbrev pub rule_of : List (List ℕ) → Option (List ℕ)
rule_of some_lines = first_given rule_in some_lines

-- what the rule of a file chooses, if it has one
abbrev pub choice_with : List Object → Option (List ℕ) → Option Chosen
choice_with objects None = None
choice_with objects (Some rule) = choice_of objects rule

-- a key with a form
abbrev pub key_of_form : (key form : List ℕ) → List ℕ
key_of_form key form = key ++ (codes "." ++ form)

-- the key that is looked up, and what is missing for it: the key itself, or its form
abbrev pub key_by : List ℕ → Option Chosen → Chosen
key_by key None = (key, None)
key_by key (Some chosen) = (key_of_form key chosen.0, chosen.1)

-- what follows a key that is absent in a report: the form of it that was looked up, if one was
abbrev pub or_form : List ℕ → Option Chosen → List ℕ
or_form key None = []
or_form key (Some chosen) = codes " or `" ++ (key_of_form key chosen.0 ++ codes "`")
