-- The names that a text looks up in its environment, computed from its tree.
use Rattle.std.specs.Prelude.{ℕ, Bool, true, false, ⊤, ◌≡◌, List, [], ◌∷◌, ◌++◌, Option, None, Some}
use Rattle.interpolator_syntax.specs.Places.{At}
use Rattle.interpolator_syntax.specs.Nodes.{Node, node, Branch, no_branch, branch, as_forest}
use Rattle.interpolator_syntax.specs.Nodes.{Forest, no_nodes, nodes_and, nodes}
use Rattle.interpolator_syntax.specs.Nodes.{Content, text_content, argument_content, fault_content}
use Rattle.interpolator_eval.specs.Meaning.Environments.{Environment, slots_under}

-- a name, except the empty one in an item format, which is the item
abbrev pub context_names : (in_item : Bool) → List ℕ → List (List ℕ)
context_names true [] = []
context_names true (c ∷ cs) = (c ∷ cs) ∷ []
context_names false name = name ∷ []

-- the name of a piece's content, if that is an argument
abbrev pub content_names : (in_item : Bool) → Option Content → List (List ℕ)
content_names in_item None = []
content_names in_item (Some (text_content from cs)) = []
content_names in_item (Some (argument_content start name spec target end)) =
    context_names in_item name
content_names in_item (Some (fault_content f)) = []

abbrev mutual
  -- the name of a piece, then those of its item format, then those of its join
  pub node_asks : (in_item : Bool) → Node → List (List ℕ)
  node_asks in_item (node place end kind content item join) =
      content_names in_item content ++ (branch_asks true item ++ branch_asks in_item join)

  -- those of a group
  pub branch_asks : (in_item : Bool) → Branch → List (List ℕ)
  branch_asks in_item no_branch = []
  branch_asks in_item (branch xs) = forest_asks in_item xs

  -- those of pieces, in order
  pub forest_asks : (in_item : Bool) → Forest → List (List ℕ)
  forest_asks in_item no_nodes = []
  forest_asks in_item (nodes_and x xs) = node_asks in_item x ++ forest_asks in_item xs

-- the names that a text uses
abbrev pub asked_names : At → List (List ℕ)
asked_names a = forest_asks false (as_forest (nodes a))

-- those of the names that are not empty
abbrev pub without_empty : List (List ℕ) → List (List ℕ)
without_empty [] = []
without_empty ([] ∷ names) = without_empty names
without_empty ((c ∷ cs) ∷ names) = (c ∷ cs) ∷ without_empty names

-- two environments have the same under each of these names
abbrev pub AgreeOn : {X : Type 0} → Environment X → Environment X → List (List ℕ) → Type 0
AgreeOn e d [] = ⊤
AgreeOn e d (name ∷ names) = (slots_under e name ≡ slots_under d name) × AgreeOn e d names
