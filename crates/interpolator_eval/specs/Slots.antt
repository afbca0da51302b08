-- What a `Formattable` means: a tree of slots and items, without the borrows.
use Rattle.std.specs.Prelude.{List, [], ◌∷◌, map, Option, None, Some}
use Rattle.std.specs.{Option.option_map, Option.option_copied, Borrow.Bor}
use Rattle.interpolator_render.specs.declared.view.Trait.{Trait}
use Rattle.interpolator_render.specs.declared.view.Trait.TheVariants.{Binary, Debug, Display}
use Rattle.interpolator_render.specs.declared.view.Trait.TheVariants.{LowerExp, LowerHex, Octal}
use Rattle.interpolator_render.specs.declared.view.Trait.TheVariants.{UpperExp, UpperHex, Iter}
use Rattle.interpolator_eval.specs.declared.slots.Formattable.{Formattable, Formattable-F}
use Rattle.interpolator_eval.specs.declared.slots.Formattable.{fold-Formattable}

-- the eight optional values, one for each formatting trait
pub record Values (X : Type 0) : Type 0 where
  pub debug : Option X
  pub display : Option X
  pub binary : Option X
  pub lower_exp : Option X
  pub lower_hex : Option X
  pub octal : Option X
  pub upper_exp : Option X
  pub upper_hex : Option X

mutual
  -- eight optional values, and an optional list of such trees
  pub data Slots (X : Type 0) : Type 0 where
    bare : Values X → Slots X
    listed : Values X → SlotsList X → Slots X

  -- a list of trees
  pub data SlotsList (X : Type 0) : Type 0 where
    no_slots : SlotsList X
    slots_and : Slots X → SlotsList X → SlotsList X

module _ {X : Type 0} where
  -- the slots of a tree
  abbrev pub values_of : Slots X → Values X
  values_of (bare filled) = filled
  values_of (listed filled _) = filled

  -- the trees as a list
  abbrev pub slots_listed : SlotsList X → List (Slots X)
  slots_listed no_slots = []
  slots_listed (slots_and tree others) = tree ∷ slots_listed others

  -- the items of a tree, if it has a list
  abbrev pub items : Slots X → Option (List (Slots X))
  items (bare _) = None
  items (listed _ others) = Some (slots_listed others)

  -- a list of trees, as one value
  abbrev pub listed_slots : List (Slots X) → SlotsList X
  listed_slots [] = no_slots
  listed_slots (tree ∷ others) = slots_and tree (listed_slots others)

  -- the tree of these slots and these items
  abbrev pub with_items : Values X → Option (List (Slots X)) → Slots X
  with_items filled None = bare filled
  with_items filled (Some others) = listed filled (listed_slots others)

  -- eight empty slots
  abbrev pub no_values : Values X
  no_values = record {
    debug = None;
    display = None;
    binary = None;
    lower_exp = None;
    lower_hex = None;
    octal = None;
    upper_exp = None;
    upper_hex = None;
  }

  -- the tree with no slot filled, its list included
  abbrev pub empty_slots : Slots X
  empty_slots = bare no_values

  -- the slots of a `Formattable` whose own items are of any type
  abbrev pub layer_values : {A : Type 0} → Formattable-F X A → Values X
  layer_values layer = record {
    debug = option_copied layer.debug;
    display = option_copied layer.display;
    binary = option_copied layer.binary;
    lower_exp = option_copied layer.lower_exp;
    lower_hex = option_copied layer.lower_hex;
    octal = option_copied layer.octal;
    upper_exp = option_copied layer.upper_exp;
    upper_hex = option_copied layer.upper_hex;
  }

  -- the tree of a `Formattable` whose items are trees already
  abbrev pub layer_slots : Formattable-F X (Slots X) → Slots X
  layer_slots layer = with_items (layer_values layer) (option_copied layer.iter)

  -- the tree of a `Formattable`
  unfoldable pub slots_of : Formattable X → Slots X
  slots_of formattable = fold-Formattable X (Slots X) layer_slots formattable

  -- the trees of an optional slice
  abbrev pub lent_slots : Option (Bor (List (Formattable X))) → Option (List (Slots X))
  lent_slots slice = option_map (λ lent. map slots_of lent.now) slice

  -- the value in the slot of a trait
  abbrev pub slot_at : Trait → Values X → Option X
  slot_at Binary filled = filled.binary
  slot_at Debug filled = filled.debug
  slot_at Display filled = filled.display
  slot_at LowerExp filled = filled.lower_exp
  slot_at LowerHex filled = filled.lower_hex
  slot_at Octal filled = filled.octal
  slot_at UpperExp filled = filled.upper_exp
  slot_at UpperHex filled = filled.upper_hex
  slot_at Iter _ = None

  -- the tree with other slots, and its items as they were
  abbrev pub with_values : Slots X → Values X → Slots X
  with_values tree filled = with_items filled (items tree)

  -- the tree with its debug and display slots filled
  abbrev pub with_debug_display : Slots X → X → Slots X
  with_debug_display tree value =
      with_values tree (record (values_of tree) { debug = Some value; display = Some value })

  -- the tree with its debug slot filled
  abbrev pub with_debug : Slots X → X → Slots X
  with_debug tree value = with_values tree (record (values_of tree) { debug = Some value })

  -- the tree with its display slot filled
  abbrev pub with_display : Slots X → X → Slots X
  with_display tree value = with_values tree (record (values_of tree) { display = Some value })

  -- the tree with all eight slots filled
  abbrev pub with_integer : Slots X → X → Slots X
  with_integer tree value = with_values tree (record {
    debug = Some value;
    display = Some value;
    binary = Some value;
    lower_exp = Some value;
    lower_hex = Some value;
    octal = Some value;
    upper_exp = Some value;
    upper_hex = Some value;
  })

  -- the tree with its debug, display and exponent slots filled
  abbrev pub with_float : Slots X → X → Slots X
  with_float tree value = with_values tree (record (values_of tree) {
    debug = Some value;
    display = Some value;
    lower_exp = Some value;
    upper_exp = Some value;
  })

  -- the tree with its binary slot filled
  abbrev pub with_binary : Slots X → X → Slots X
  with_binary tree value = with_values tree (record (values_of tree) { binary = Some value })

  -- the tree with its lower_exp slot filled
  abbrev pub with_lower_exp : Slots X → X → Slots X
  with_lower_exp tree value = with_values tree (record (values_of tree) { lower_exp = Some value })

  -- the tree with its lower_hex slot filled
  abbrev pub with_lower_hex : Slots X → X → Slots X
  with_lower_hex tree value = with_values tree (record (values_of tree) { lower_hex = Some value })

  -- the tree with its octal slot filled
  abbrev pub with_octal : Slots X → X → Slots X
  with_octal tree value = with_values tree (record (values_of tree) { octal = Some value })

  -- the tree with its upper_exp slot filled
  abbrev pub with_upper_exp : Slots X → X → Slots X
  with_upper_exp tree value = with_values tree (record (values_of tree) { upper_exp = Some value })

  -- the tree with its upper_hex slot filled
  abbrev pub with_upper_hex : Slots X → X → Slots X
  with_upper_hex tree value = with_values tree (record (values_of tree) { upper_hex = Some value })

  -- the tree with the slot of a trait filled; a value fills no list
  abbrev pub with_trait : Trait → Slots X → X → Slots X
  with_trait Binary tree value = with_binary tree value
  with_trait Debug tree value = with_debug tree value
  with_trait Display tree value = with_display tree value
  with_trait LowerExp tree value = with_lower_exp tree value
  with_trait LowerHex tree value = with_lower_hex tree value
  with_trait Octal tree value = with_octal tree value
  with_trait UpperExp tree value = with_upper_exp tree value
  with_trait UpperHex tree value = with_upper_hex tree value
  with_trait Iter tree value = tree

  -- the tree with these items, and its slots as they were
  abbrev pub with_iter : Slots X → List (Slots X) → Slots X
  with_iter tree others = with_items (values_of tree) (Some others)
