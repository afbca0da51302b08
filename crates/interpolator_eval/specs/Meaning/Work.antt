-- The work of writing a format, up to the first fault: how many pieces are gone through, and how
-- many characters lists under a width have in buffers at one time.
use Rattle.std.specs.Prelude.{ℕ, ◌+◌, max, length, List, [], ◌∷◌, Option, None, Some, if◌then◌else◌}
use Rattle.interpolator_render.specs.{declared.view.Spec.Spec, declared.view.Trait.Trait}
use Rattle.interpolator_render.specs.Views.{Shown}
use Rattle.interpolator_syntax.specs.Nodes.{Node, node, Branch, no_branch, branch, Forest, no_nodes}
use Rattle.interpolator_syntax.specs.Nodes.{nodes_and, as_forest, nodes, Content, text_content}
use Rattle.interpolator_syntax.specs.Nodes.{argument_content, fault_content, Target, target_value}
use Rattle.interpolator_syntax.specs.Nodes.{target_list}
use Rattle.interpolator_syntax.specs.{Places.At, Faults.Fault, declared.range.Range.Range}
use Rattle.interpolator_eval.specs.Meaning.Environments.{Environment, slots_under, bind}
use Rattle.interpolator_eval.specs.Meaning.Meanings.{Meaning, forbids_list, items_mean}
use Rattle.interpolator_eval.specs.Meaning.Meanings.{join_branch_means, item_branch_means}
use Rattle.interpolator_eval.specs.Meaning.Meanings.{node_means}
use Rattle.interpolator_eval.specs.{Slots.Slots, Slots.items, Meaning.Choices.chosen_items}

-- how many pieces are gone through, and the most characters that are held at one time
pub record Work : Type 0 where
  pub pieces : ℕ
  pub held : ℕ

-- nothing
abbrev pub no_work : Work
no_work = record { pieces = 0; held = 0 }

-- one more piece
abbrev pub piece_and : Work → Work
piece_and w = record w { pieces = 1 + w.pieces }

-- the work of one after the other, by the fault of the first
abbrev pub or_stop : Option Fault → Work → Work → Work
or_stop (Some f) w v = w
or_stop None w v = record { pieces = w.pieces + v.pieces; held = max w.held v.held }

-- the work of an item by its format: if no piece is gone through, the item counts as one
abbrev pub item_work : Work → Work
item_work w = record w { pieces = max 1 w.pieces }

-- the join and an item, with what they mean and go through
module _ {A : Type 0} (join : Meaning) (joins : Work) (item : A → Meaning) (each : A → Work) where
  -- items, each with the join before it
  abbrev pub work_after : List A → Work
  work_after [] = no_work
  work_after (x ∷ xs) =
      or_stop join.fault joins (or_stop (item x).fault (each x) (work_after xs))

  -- items in order, with the join between two of them
  abbrev pub items_work : List A → Work
  items_work [] = no_work
  items_work (x ∷ xs) = or_stop (item x).fault (each x) (work_after xs)

  -- under a width, their text is held, and beside it what lists in them hold
  abbrev pub chosen_work : (width : Option ℕ) → List A → Work
  chosen_work None chosen = items_work chosen
  chosen_work (Some width) chosen = record {
    pieces = (items_work chosen).pieces;
    held = length (items_mean join item chosen).text + (items_work chosen).held;
  }

  -- the items that a range chooses of the list that was found, if one was
  abbrev pub listed_work : Option Range → Spec → Option (List A) → Work
  listed_work range spec None = no_work
  listed_work range spec (Some ts) =
      if forbids_list spec then no_work else chosen_work spec.width (chosen_items range ts)

-- the work of what was found under a name
abbrev pub under_work : {A : Type 0} → (A → Work) → Option A → Work
under_work work None = no_work
under_work work (Some found) = work found

module _ {X : Type 0} (shows : X → Trait → Spec → Shown) where
  -- the work of what was found, as a value or a list
  abbrev pub target_work : Target → Spec → (join : Meaning) → (joins : Work) → (Slots X → Meaning)
      → (Slots X → Work) → Slots X → Work
  target_work (target_value t) spec join joins item each found = no_work
  target_work (target_list range) spec join joins item each found =
      listed_work join joins item each range spec (items found)

  -- the work of a piece's content
  abbrev pub content_work : Environment X → Content → (join : Meaning) → (joins : Work)
      → (item : ℕ → Slots X → Meaning) → (each : ℕ → Slots X → Work) → Work
  content_work e (text_content from cs) join joins item each = piece_and no_work
  content_work e (argument_content start name spec target end) join joins item each =
      piece_and
      (under_work (target_work target spec join joins (item end) (each end)) (slots_under e name))
  content_work e (fault_content f) join joins item each = piece_and no_work

  abbrev mutual
    -- a piece, with those of its groups
    pub node_work : Environment X → Node → Work
    node_work e (node place end kind None item join) = no_work
    node_work e (node place end kind (Some content) item join) =
        content_work e content (join_branch_means shows e join) (join_branch_work e join)
        (item_branch_means shows e item) (item_branch_work e item)

    -- what comes between two items
    pub join_branch_work : Environment X → Branch → Work
    join_branch_work e no_branch = no_work
    join_branch_work e (branch xs) = forest_work e xs

    -- an item by its format, or displayed plainly
    pub item_branch_work : Environment X → Branch → (end : ℕ) → Slots X → Work
    item_branch_work e no_branch = λ end item. piece_and no_work
    item_branch_work e (branch xs) = λ end item. item_work (forest_work (bind e item) xs)

    -- pieces in order
    pub forest_work : Environment X → Forest → Work
    forest_work e no_nodes = no_work
    forest_work e (nodes_and x xs) =
        or_stop (node_means shows e x).fault (node_work e x) (forest_work e xs)

  -- a text
  abbrev pub text_work : Environment X → At → Work
  text_work e a = forest_work e (as_forest (nodes a))
