-- The names of slots, and the text that names those that are filled.
use Rattle.std.specs.Prelude.{ℕ, List, [], ◌∷◌, ◌++◌, map, filter, Bool, is_some, codes}
use Rattle.std.specs.Prelude.{if◌then◌else◌}
use Rattle.std.specs.List.{join_by}
use Rattle.interpolator_render.specs.declared.view.Trait.{Trait}
use Rattle.interpolator_render.specs.declared.view.Trait.TheVariants.{Binary, Debug, Display}
use Rattle.interpolator_render.specs.declared.view.Trait.TheVariants.{LowerExp, LowerHex, Octal}
use Rattle.interpolator_render.specs.declared.view.Trait.TheVariants.{UpperExp, UpperHex, Iter}
use Rattle.interpolator_eval.specs.Slots.{Slots, values_of, items, slot_at}

-- the name of a trait's slot
abbrev pub slot_name : Trait → List ℕ
slot_name Binary = codes "binary"
slot_name Debug = codes "debug"
slot_name Display = codes "display"
slot_name LowerExp = codes "lower_exp"
slot_name LowerHex = codes "lower_hex"
slot_name Octal = codes "octal"
slot_name UpperExp = codes "upper_exp"
slot_name UpperHex = codes "upper_hex"
slot_name Iter = codes "iter"

-- the order in which the slots are named
abbrev pub slot_order : List Trait
slot_order =
    Debug ∷ Display ∷ Binary ∷ LowerExp ∷ LowerHex ∷ Octal ∷ UpperExp ∷ UpperHex ∷ Iter ∷ []

-- a name, after the parenthesis or the comma that comes before it
abbrev pub name_after : Bool → List ℕ → List ℕ
name_after is_first name = (if is_first then codes "(" else codes ", ") ++ name

-- the names in parentheses, or nothing if there is none
abbrev pub in_parentheses : List (List ℕ) → List ℕ
in_parentheses [] = []
in_parentheses (name ∷ names) =
    codes "(" ++ (join_by (λ part. part) (codes ", ") (name ∷ names) ++ codes ")")

module _ {X : Type 0} where
  -- whether a trait's slot is filled
  abbrev pub is_filled : Slots X → Trait → Bool
  is_filled tree Iter = is_some (items tree)
  is_filled tree slot = is_some (slot_at slot (values_of tree))

  -- the names of the slots that are filled
  abbrev pub filled_names : Slots X → List (List ℕ)
  filled_names tree = map slot_name (filter (is_filled tree) slot_order)

  -- the text for debugging
  abbrev pub debug_text : Slots X → List ℕ
  debug_text tree = codes "Formattable" ++ in_parentheses (filled_names tree)
