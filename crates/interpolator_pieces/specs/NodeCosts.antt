-- What a format can cost at most, if the values it is written with are within limits.
use Rattle.std.specs.Prelude.{ℕ, ◌+◌, ◌-◌, ◌*◌, max, length, Option, None, Some}
use Rattle.interpolator_render.specs.Lengths.{most_written, usize_count}
use Rattle.interpolator_render.specs.{declared.view.Spec.Spec, declared.view.Trait.Trait}
use Rattle.interpolator_render.specs.declared.view.Trait.TheVariants.{Display}
use Rattle.interpolator_syntax.specs.Nodes.{Node, node, Branch, no_branch, branch, Forest, no_nodes}
use Rattle.interpolator_syntax.specs.Nodes.{nodes_and, as_forest, nodes, Content, text_content}
use Rattle.interpolator_syntax.specs.Nodes.{argument_content, fault_content, target_value}
use Rattle.interpolator_syntax.specs.Nodes.{target_list}
use Rattle.interpolator_syntax.specs.{Places.At, SpecTexts.plain_spec, declared.range.Range.Range}
use Rattle.interpolator_eval.specs.Meaning.Limits.{most_chosen}
use Rattle.interpolator_pieces.specs.{declared.cost.Cost.Cost, declared.cost.Limits.Limits}

-- the cost of nothing
abbrev pub no_cost : Cost
no_cost = record { characters = 0; pieces = 0; buffered = 0 }

-- the cost of one piece that has these characters
abbrev pub piece_cost : (characters : ℕ) → Cost
piece_cost characters = record { characters = characters; pieces = 1; buffered = 0 }

-- the cost of one after the other: only one of them uses a buffer at a time
abbrev pub then_cost : Cost → Cost → Cost
then_cost a b = record {
  characters = a.characters + b.characters;
  pieces = a.pieces + b.pieces;
  buffered = max a.buffered b.buffered;
}

-- the cost of an item by its format: if the format has no pieces, the item counts as one
abbrev pub item_cost : Cost → Cost
item_cost c = record c { pieces = max 1 c.pieces }

-- the cost of `count` items, with the join between each two
abbrev pub items_cost : (count : ℕ) → (item join : Cost) → Cost
items_cost count item join = record {
  characters = count * item.characters + (count - 1) * join.characters;
  pieces = count * item.pieces + (count - 1) * join.pieces;
  buffered = max item.buffered join.buffered;
}

-- the cost of the items of a list, which under a width are collected in a buffer and padded: then
-- at least one character counts as buffered, so that 0 means that there is no such list
abbrev pub padded_cost : (width : Option ℕ) → Cost → Cost
padded_cost None c = c
padded_cost (Some width) c = record {
  characters = max width c.characters;
  pieces = c.pieces;
  buffered = max 1 c.characters + c.buffered;
}

-- within these limits, the cost of each of these:
module _ (limits : Limits) where
  -- a value under a trait and a spec
  abbrev pub value_cost : Trait → Spec → Cost
  value_cost t spec = piece_cost (most_written t spec limits.text)

  -- a list, whose items a range chooses: the argument itself, and the items
  abbrev pub list_cost : Option Range → Spec → (item join : Cost) → Cost
  list_cost range spec item join =
      then_cost (piece_cost 0)
      (padded_cost spec.width (items_cost (most_chosen limits.items range) item join))

  -- what a piece holds, by the costs of an item and of the join
  abbrev pub content_cost : Content → (item join : Cost) → Cost
  content_cost (text_content from cs) item join = piece_cost (length cs)
  content_cost (argument_content start name spec (target_value t) end) item join = value_cost t spec
  content_cost (argument_content start name spec (target_list range) end) item join =
      list_cost range spec item join
  content_cost (fault_content f) item join = piece_cost 0

  abbrev mutual
    -- a piece, with those of its groups
    pub node_cost : Node → Cost
    node_cost (node place end kind None item join) = no_cost
    node_cost (node place end kind (Some content) item join) =
        content_cost content (item_branch_cost item) (join_branch_cost join)

    -- an item by its format, or displayed plainly
    pub item_branch_cost : Branch → Cost
    item_branch_cost no_branch = value_cost Display plain_spec
    item_branch_cost (branch xs) = item_cost (forest_cost xs)

    -- what comes between two items
    pub join_branch_cost : Branch → Cost
    join_branch_cost no_branch = no_cost
    join_branch_cost (branch xs) = forest_cost xs

    -- pieces in order
    pub forest_cost : Forest → Cost
    forest_cost no_nodes = no_cost
    forest_cost (nodes_and x xs) = then_cost (node_cost x) (forest_cost xs)

  -- a text
  abbrev pub text_cost : At → Cost
  text_cost a = forest_cost (as_forest (nodes a))

-- each count as a `usize`, or the greatest `usize` if it is greater
abbrev pub usize_cost : Cost → Cost
usize_cost c = record {
  characters = usize_count c.characters;
  pieces = usize_count c.pieces;
  buffered = usize_count c.buffered;
}

-- the limits of the worked costs: texts of ten characters, lists of three items
abbrev pub ten_and_three : Limits
ten_and_three = record { text = 10; items = 3 }
