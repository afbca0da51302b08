-- The flat program of a format and names, and what it means with a row.
use Rattle.std.specs.Prelude.{ℕ, List, [], ◌∷◌, ◌++◌, Option, Some, None}
use Rattle.std.specs.Str.{encode_utf8_all}
use Rattle.interpolator_render.specs.{declared.view.Trait.Trait, declared.view.Spec.Spec}
use Rattle.interpolator_render.specs.Views.{Shown}
use Rattle.interpolator_syntax.specs.Places.{Placed, placed_from}
use Rattle.interpolator_syntax.specs.Nodes.{Node, node, Branch, Content, text_content}
use Rattle.interpolator_syntax.specs.Nodes.{argument_content, target_value, target_list}
use Rattle.interpolator_syntax.specs.declared.piece_kind.PieceKind.{PieceKind}
use Rattle.interpolator_syntax.specs.declared.piece_kind.PieceKind.TheVariants.{Closed}
use Rattle.interpolator_eval.specs.Meaning.Meanings.{Meaning, nothing, text_alone, chain}
use Rattle.interpolator_eval.specs.Meaning.Meanings.{value_means, node_means}
use Rattle.interpolator_eval.specs.{Slots.Slots, Meaning.Environments.Environment}
use Rattle.interpolator_prepared.specs.Items.{ListFormat, item_parts, join_parts, list_means}
use Rattle.interpolator_prepared.specs.Rows.{last_position, slot_found}

-- one step of a program: characters, each with its place; the value at a position, under a trait
-- and a spec that ends at `end`; a list; or what a node means
pub data Instruction : Type 0 where
  text_step : Placed → Instruction
  value_step : (position : ℕ) (wanted : Trait) (spec : Spec) (end : ℕ) → Instruction
  list_step : ListFormat → Instruction
  node_step : Node → Instruction

-- text before steps: joined to the first of them, if that is text too
abbrev pub text_before : Placed → List Instruction → List Instruction
text_before xs (text_step ys ∷ steps) = text_step (xs ++ ys) ∷ steps
text_before xs steps = text_step xs ∷ steps

-- the step of a node that has no position: of a list by the parts of its groups
abbrev pub held_step : Option Content → PieceKind → (item join : Branch) → Node → Instruction
held_step (Some (argument_content start name spec (target_list range) end)) kind item join x =
    list_step (record {
      kind = kind;
      start = start;
      name = name;
      range = range;
      spec = spec;
      end = end;
      item = item_parts item end;
      join = join_parts join;
    })
held_step held kind item join x = node_step x

abbrev pub whole_step : Node → Instruction
whole_step (node place end kind held item join) =
    held_step held kind item join (node place end kind held item join)

module _ (names : List (List ℕ)) where
  -- the position of the name of a closed argument that asks for a value
  abbrev pub content_position : PieceKind → Option Content → Option ℕ
  content_position Closed (Some (argument_content start name spec (target_value t) end)) =
      last_position names (encode_utf8_all name)
  content_position kind held = None

  abbrev pub node_position : Node → Option ℕ
  node_position (node place end kind content item join) = content_position kind content

  -- the step of an argument whose name has that position
  abbrev pub step_at : (position : ℕ) → Node → Instruction
  step_at k (node place end kind (Some (argument_content start name spec (target_value t) q)) item join) =
      value_step k t spec q
  step_at k x = whole_step x

  -- the step of an argument whose name has a position; or, if it has none, of the node as it is
  abbrev pub argument_step : Option ℕ → Node → Instruction
  argument_step None x = whole_step x
  argument_step (Some k) x = step_at k x

  -- what a node adds before steps
  abbrev pub node_before : Node → List Instruction → List Instruction
  node_before (node place end kind (Some (text_content from cs)) item join) steps =
      text_before (placed_from from cs) steps
  node_before x steps = argument_step (node_position x) x ∷ steps

  -- the program of nodes: neighbouring text is one step, and a name is a position
  abbrev pub program : List Node → List Instruction
  program [] = []
  program (x ∷ xs) = node_before x (program xs)

-- what the value at a position means: a row that does not reach it has no value there
abbrev pub position_means : {X : Type 0} → (X → Trait → Spec → Shown) → Trait → Spec → (end : ℕ)
    → Option (Slots X) → Meaning
position_means shows t spec end found = value_means shows t spec end (slot_found t found)

-- `value_at` gives the value at each position of a row
module _ {X : Type 0} (shows : X → Trait → Spec → Shown) (e : Environment X)
    (value_at : ℕ → Option (Slots X)) where
  -- what a step means
  abbrev pub step_means : Instruction → Meaning
  step_means (text_step xs) = text_alone xs
  step_means (value_step k t spec end) = position_means shows t spec end (value_at k)
  step_means (list_step x) = list_means shows e x
  step_means (node_step x) = node_means shows e x

  -- what steps mean in order, up to the first fault
  abbrev pub steps_mean : List Instruction → Meaning
  steps_mean [] = nothing
  steps_mean (step ∷ steps) = chain (step_means step) (steps_mean steps)
