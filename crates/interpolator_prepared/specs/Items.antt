-- Lists of a prepared format: what their item formats and joins are made of, and what these mean.
use Rattle.std.specs.Prelude.{ℕ, ◌==◌, ◌&&◌, Bool, true, false, List, [], ◌∷◌, ◌++◌}
use Rattle.std.specs.Prelude.{map, Option, Some}
use Rattle.interpolator_render.specs.declared.view.Trait.{Trait}
use Rattle.interpolator_render.specs.declared.view.Trait.TheVariants as traits
use Rattle.interpolator_render.specs.{declared.view.Spec.Spec, Views.Shown}
use Rattle.interpolator_syntax.specs.Places.{Placed, placed_from}
use Rattle.interpolator_syntax.specs.Nodes.{Node, node, Branch, no_branch, branch, Forest, no_nodes}
use Rattle.interpolator_syntax.specs.Nodes.{nodes_and, Content, text_content, argument_content}
use Rattle.interpolator_syntax.specs.Nodes.{target_value}
use Rattle.interpolator_syntax.specs.{SpecTexts.plain_spec, declared.piece_kind.PieceKind.PieceKind}
use Rattle.interpolator_syntax.specs.declared.piece_kind.PieceKind.TheVariants.{Closed}
use Rattle.interpolator_syntax.specs.declared.range.Range.{Range}
use Rattle.interpolator_eval.specs.Slots.{Slots, slot_at, values_of}
use Rattle.interpolator_eval.specs.Meaning.Environments.{Environment, bind}
use Rattle.interpolator_eval.specs.Meaning.Lists.{list_under_name}
use Rattle.interpolator_eval.specs.Meaning.Meanings.{Meaning, nothing, text_alone, chain}
use Rattle.interpolator_eval.specs.Meaning.Meanings.{value_means, and_closed, items_mean}
use Rattle.interpolator_eval.specs.Meaning.Meanings.{node_means}
use Rattle.interpolator_prepared.specs.{Rows.slot_found, declared.step.ValueSpec.ValueSpec}

-- a part of an item format or of a join: a character; the item under a trait and a spec that ends
-- at `end`; or what a node means
pub data ItemPart : Type 0 where
  character : (c place : ℕ) → ItemPart
  item_value : (kind : PieceKind) (wanted : Trait) (spec : Spec) (end : ℕ) → ItemPart
  other_node : Node → ItemPart

-- characters, each at its place
abbrev pub characters : Placed → List ItemPart
characters xs = map (λ x. character x.0 x.1) xs

-- the parts of a node of a join: text is its characters
abbrev pub held_in_join : Option Content → Node → List ItemPart
held_in_join (Some (text_content from cs)) x = characters (placed_from from cs)
held_in_join held x = other_node x ∷ []

-- those of a node of an item format: a value under the empty name is the item
abbrev pub held_in_item : Option Content → PieceKind → Node → List ItemPart
held_in_item (Some (text_content from cs)) kind x = characters (placed_from from cs)
held_in_item (Some (argument_content start [] spec (target_value t) end)) kind x =
    item_value kind t spec end ∷ []
held_in_item held kind x = other_node x ∷ []

abbrev pub in_join : Node → List ItemPart
in_join (node place end kind held item join) = held_in_join held (node place end kind held item join)

abbrev pub in_item : Node → List ItemPart
in_item (node place end kind held item join) =
    held_in_item held kind (node place end kind held item join)

-- the parts of nodes in order
abbrev pub parts_by : (Node → List ItemPart) → Forest → List ItemPart
parts_by parts no_nodes = []
parts_by parts (nodes_and x xs) = parts x ++ parts_by parts xs

-- the parts of a join: none if there is none
abbrev pub join_parts : Branch → List ItemPart
join_parts no_branch = []
join_parts (branch xs) = parts_by in_join xs

-- those of an item format: without one, an item is displayed plainly
abbrev pub item_parts : Branch → (end : ℕ) → List ItemPart
item_parts no_branch end = item_value Closed traits.Display plain_spec end ∷ []
item_parts (branch xs) end = parts_by in_item xs

-- a list: its argument, and the parts of its item format and of its join
pub record ListFormat : Type 0 where
  pub kind : PieceKind
  pub start : ℕ
  pub name : List ℕ
  pub range : Option Range
  pub spec : Spec
  pub end : ℕ
  pub item : List ItemPart
  pub join : List ItemPart

module _ {X : Type 0} (shows : X → Trait → Spec → Shown) where
  -- what a value means under a trait and a spec
  abbrev pub value_under : ValueSpec → Slots X → Meaning
  value_under asked found =
      value_means shows asked.slot asked.spec asked.end (slot_at asked.slot (values_of found))

  module _ (e : Environment X) where
    abbrev pub part_means : ItemPart → Meaning
    part_means (character c place) = text_alone ((c, place) ∷ [])
    part_means (item_value kind t spec end) =
        and_closed kind end (value_means shows t spec end (slot_found t e.inner))
    part_means (other_node x) = node_means shows e x

    -- parts in order, up to the first fault
    abbrev pub parts_mean : List ItemPart → Meaning
    parts_mean [] = nothing
    parts_mean (x ∷ xs) = chain (part_means x) (parts_mean xs)

  -- what a list means: its item format is written with each item as the inner value
  abbrev pub list_means : Environment X → ListFormat → Meaning
  list_means e x =
      and_closed x.kind x.end (list_under_name e x.name x.start x.range x.spec x.end
      (parts_mean e x.join) (λ found. parts_mean (bind e found) x.item))

  -- items under a trait and a spec, with a text before the first, one between two, and one after
  -- the last
  abbrev pub items_within : ValueSpec → (before between after : Placed) → List (Slots X) → Meaning
  items_within asked before between after [] = nothing
  items_within asked before between after (x ∷ xs) =
      chain (text_alone before) (chain
      (items_mean (text_alone between) (value_under asked) (x ∷ xs)) (text_alone after))

-- both are the same characters at the same places
abbrev pub placed_eq : Placed → Placed → Bool
placed_eq [] [] = true
placed_eq (x ∷ xs) (y ∷ ys) = (x.0 == y.0) && ((x.1 == y.1) && placed_eq xs ys)
placed_eq xs ys = false
