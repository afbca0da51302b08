-- What a format means: text with places, at most one fault, and where memory is needed.
use Rattle.std.specs.Prelude.{ℕ, ◌+◌, ◌||◌, Bool, true, false, is_some, if◌then◌else◌, codes}
use Rattle.std.specs.Prelude.{List, [], ◌∷◌, ◌++◌, map, length, Option, None, Some}
use Rattle.interpolator_render.specs.declared.view.Trait.{Trait}
use Rattle.interpolator_render.specs.declared.view.Trait.TheVariants as traits
use Rattle.interpolator_render.specs.declared.view.Sign.{Sign}
use Rattle.interpolator_render.specs.declared.view.Sign.TheVariants as signs
use Rattle.interpolator_render.specs.Texts.{ViewText, has_text, has_no_text, has_failed, view_text}
use Rattle.interpolator_render.specs.{declared.view.Spec.Spec, Padding.padded_text, Views.Shown}
use Rattle.interpolator_syntax.specs.Places.{At, Placed, placed_at, placed_from, text_of}
use Rattle.interpolator_syntax.specs.Faults.{Fault, missing_value, missing_trait_impl, fmt, parse}
use Rattle.interpolator_syntax.specs.Faults.{expected, iter}
use Rattle.interpolator_syntax.specs.Nodes.{Node, node, Branch, no_branch, branch, as_forest}
use Rattle.interpolator_syntax.specs.Nodes.{Forest, no_nodes, nodes_and, nodes, Content}
use Rattle.interpolator_syntax.specs.Nodes.{text_content, argument_content, fault_content, Target}
use Rattle.interpolator_syntax.specs.Nodes.{target_value, target_list, group_branch, argument_node}
use Rattle.interpolator_syntax.specs.declared.piece_kind.PieceKind.TheVariants.{Closed, Unclosed}
use Rattle.interpolator_syntax.specs.declared.{piece_kind.PieceKind.PieceKind, range.Range.Range}
use Rattle.interpolator_syntax.specs.{Arguments.Argument, Groups.Group, Lists.ListRequest}
use Rattle.interpolator_syntax.specs.{Pieces.Piece, SpecTexts.plain_spec, Splits.node_alone}
use Rattle.interpolator_eval.specs.Slots.{Slots, values_of, items, slot_at}
use Rattle.interpolator_eval.specs.Meaning.Choices.{chosen_items}
use Rattle.interpolator_eval.specs.Meaning.Environments.{Environment, slots_under, bind}

-- a placed text, at most one fault, and the memory points: after how many characters memory is
-- needed
pub record Meaning : Type 0 where
  pub text : Placed
  pub fault : Option Fault
  pub memory_points : List ℕ

-- no text, no fault, no memory
abbrev pub nothing : Meaning
nothing = record { text = []; fault = None; memory_points = [] }

-- a text alone
abbrev pub text_alone : Placed → Meaning
text_alone text = record { text = text; fault = None; memory_points = [] }

-- a fault alone
abbrev pub fault_alone : Fault → Meaning
fault_alone f = record { text = []; fault = Some f; memory_points = [] }

-- a fault that needs memory
abbrev pub fault_wanting_memory : Fault → Meaning
fault_wanting_memory f = record { text = []; fault = Some f; memory_points = 0 ∷ [] }

-- one meaning after the other, by the fault of the first: memory points move by its text
abbrev pub or_fault : Option Fault → Meaning → Meaning → Meaning
or_fault (Some f) m k = m
or_fault None m k = record {
  text = m.text ++ k.text;
  fault = k.fault;
  memory_points = m.memory_points ++ map (λ n. length m.text + n) k.memory_points;
}

-- the first meaning and, if it has no fault, the second after it
abbrev pub chain : Meaning → Meaning → Meaning
chain m k = or_fault m.fault m k

-- what the text of a view means, with each character at `end`
abbrev pub view_means : Trait → (end : ℕ) → ViewText → Meaning
view_means t end (has_text cs) = text_alone (placed_at end cs)
view_means t end has_no_text = fault_alone (missing_trait_impl t end)
view_means t end has_failed = fault_alone (fmt end)

-- what a slot means, by what the value in it shows under a trait and a spec
abbrev pub value_means : {X : Type 0} → (shows : X → Trait → Spec → Shown)
    → Trait → Spec → (end : ℕ) → Option X → Meaning
value_means shows t spec end None = fault_alone (missing_trait_impl t end)
value_means shows t spec end (Some x) = view_means t end (view_text (shows x t spec) t spec)

-- a sign is set
abbrev pub has_sign : Sign → Bool
has_sign signs.Unset = false
has_sign signs.Plus = true
has_sign signs.Minus = true

-- the spec has an option that no list may have: a precision, a sign, `#` or the zero flag
abbrev pub forbids_list : Spec → Bool
forbids_list spec = is_some spec.precision || (has_sign spec.sign || (spec.alternate || spec.zero))

-- a text that is made whole in a buffer and then padded, each character at `end`: memory is needed
-- first, and after a fault in it nothing is written
abbrev pub buffered_means : Spec → (end : ℕ) → Option Fault → List ℕ → Meaning
buffered_means spec end (Some f) cs = fault_wanting_memory f
buffered_means spec end None cs =
    record { text = placed_at end (padded_text spec cs); fault = None; memory_points = 0 ∷ [] }

-- under a spec with a width, a list is made whole and padded
abbrev pub padded_list : Spec → (end : ℕ) → Meaning → Meaning
padded_list spec end m =
    if is_some spec.width then buffered_means spec end m.fault (text_of m.text) else m

-- the items in order, each with the join before it
abbrev pub items_after : {X : Type 0} → (join : Meaning) → (X → Meaning) → List X → Meaning
items_after join item [] = nothing
items_after join item (x ∷ xs) = chain join (chain (item x) (items_after join item xs))

-- the items in order, with the join between two of them
abbrev pub items_mean : {X : Type 0} → (join : Meaning) → (X → Meaning) → List X → Meaning
items_mean join item [] = nothing
items_mean join item (x ∷ xs) = chain (item x) (items_after join item xs)

-- the meaning of what was found under the name of an argument that starts at `start`; if nothing
-- was, its fault
abbrev pub under_name : {X : Type 0} → (name : List ℕ) → (start : ℕ) → (X → Meaning) → Option X
    → Meaning
under_name name start means None = fault_wanting_memory (missing_value name start)
under_name name start means (Some found) = means found

-- what the items mean that a range chooses of the list that was found, by what the join and an item
-- mean; if no list was, its fault
abbrev pub listed_means : {X : Type 0} → Option Range → Spec → (end : ℕ) → (join : Meaning)
    → (item : X → Meaning) → Option (List X) → Meaning
listed_means range spec end join item None = fault_alone (missing_trait_impl traits.Iter end)
listed_means range spec end join item (Some ts) =
    if forbids_list spec then fault_alone (parse (iter end))
    else padded_list spec end (items_mean join item (chosen_items range ts))

-- an argument, and after it the fault of the missing brace, if it is not closed
abbrev pub and_closed : PieceKind → (end : ℕ) → Meaning → Meaning
and_closed Unclosed end m = chain m (fault_alone (parse (expected (codes "}") end)))
and_closed _ end m = m

module _ {X : Type 0} (shows : X → Trait → Spec → Shown) where
  -- what was found under a name, as a value or a list, by what the join and an item mean
  abbrev pub target_means : Target → Spec → (end : ℕ) → (join : Meaning) → (Slots X → Meaning)
      → Slots X → Meaning
  target_means (target_value t) spec end join item found =
      value_means shows t spec end (slot_at t (values_of found))
  target_means (target_list range) spec end join item found =
      listed_means range spec end join item (items found)

  -- text that is written means itself, a name what is under it, and a fault itself; `join` is what
  -- the join means, and `item` what an item means, for a spec that ends at a place
  abbrev pub content_means : Environment X → PieceKind → Content → (join : Meaning)
      → (item : ℕ → Slots X → Meaning) → Meaning
  content_means e kind (text_content from cs) join item = text_alone (placed_from from cs)
  content_means e kind (argument_content start name spec target end) join item =
      and_closed kind end
      (under_name name start (target_means target spec end join (item end)) (slots_under e name))
  content_means e kind (fault_content f) join item = fault_alone f

  -- an item without a format: it is displayed plainly
  abbrev pub plain_item_means : (end : ℕ) → Slots X → Meaning
  plain_item_means end item =
      value_means shows traits.Display plain_spec end (slot_at traits.Display (values_of item))

  abbrev mutual
    -- a piece means its content, by what its groups mean
    pub node_means : Environment X → Node → Meaning
    node_means e (node place end kind None item join) = nothing
    node_means e (node place end kind (Some content) item join) =
        content_means e kind content (join_branch_means e join) (item_branch_means e item)

    -- what comes between two items means the same between any two
    pub join_branch_means : Environment X → Branch → Meaning
    join_branch_means e no_branch = nothing
    join_branch_means e (branch xs) = forest_means e xs

    -- an item means its format, in which the empty name is the item; without one, it is displayed
    pub item_branch_means : Environment X → Branch → (end : ℕ) → Slots X → Meaning
    item_branch_means e no_branch = plain_item_means
    item_branch_means e (branch xs) = λ end item. forest_means (bind e item) xs

    -- the meanings of pieces, joined up to the first fault
    pub forest_means : Environment X → Forest → Meaning
    forest_means e no_nodes = nothing
    forest_means e (nodes_and x xs) = chain (node_means e x) (forest_means e xs)

  module _ (e : Environment X) where
    -- a text means what its tree means
    abbrev pub means : At → Meaning
    means a = forest_means e (as_forest (nodes a))

    -- ---- by the pieces of the text

    -- what some of its pieces mean, each by itself
    abbrev pub pieces_mean : List Piece → Meaning
    pieces_mean xs = forest_means e (as_forest (map node_alone xs))

    -- what a closed argument means that starts at `start` and whose spec ends at `end`
    abbrev pub argument_means : (start : ℕ) → Argument → (end : ℕ) → Meaning
    argument_means start x end = node_means e (argument_node nodes start end Closed start x end)

    -- an item, by its format if it has one
    abbrev pub item_means : (end : ℕ) → Option Group → Slots X → Meaning
    item_means end g = item_branch_means e (group_branch nodes g) end

    -- a join, if there is one
    abbrev pub join_means : Option Group → Meaning
    join_means g = join_branch_means e (group_branch nodes g)

    -- the chosen items of a list, written one after the other
    abbrev pub chosen_means : ListRequest → (end : ℕ) → List (Slots X) → Meaning
    chosen_means l end chosen = items_mean (join_means l.join) (item_means end l.item) chosen
