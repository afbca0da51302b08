-- The faults of a format against a sample: an example of the contexts that it will be written with.
use Rattle.std.specs.Prelude.{ℕ, Bool, false, ◌||◌, is_some, if◌then◌else◌, Option, Some, None}
use Rattle.std.specs.Prelude.{List, [], ◌∷◌, ◌++◌, unwrap_or}
use Rattle.std.specs.List.{list_any}
use Rattle.interpolator_render.specs.declared.view.Trait.{Trait}
use Rattle.interpolator_render.specs.declared.view.Trait.TheVariants as traits
use Rattle.interpolator_render.specs.{declared.view.Spec.Spec, Views.Shown}
use Rattle.interpolator_syntax.specs.Faults.{Fault, missing_value, missing_trait_impl, fmt}
use Rattle.interpolator_syntax.specs.Nodes.{Node, node, Branch, no_branch, branch, as_forest}
use Rattle.interpolator_syntax.specs.Nodes.{Forest, no_nodes, nodes_and, nodes, Content}
use Rattle.interpolator_syntax.specs.Nodes.{text_content, argument_content, fault_content, Target}
use Rattle.interpolator_syntax.specs.Nodes.{target_value, target_list}
use Rattle.interpolator_syntax.specs.{Places.At, SpecTexts.plain_spec}
use Rattle.interpolator_eval.specs.Slots.{Slots}
use Rattle.interpolator_eval.specs.Meaning.Samples.{Sample, sample, bind_each, candidates_under}
use Rattle.interpolator_eval.specs.Meaning.Samples.{items_of_all, has_no_list, some_missing}
use Rattle.interpolator_eval.specs.Meaning.Samples.{some_failed}
use Rattle.interpolator_pieces.specs.NodeChecks.{fault_list, own_fault, end_fault}

-- a fault as a list, if the test says that there is one
abbrev pub fault_if : Bool → Fault → List Fault
fault_if holds f = if holds then f ∷ [] else []

-- the items that an argument may have, if it asks for a list
abbrev pub may_be_items : {X : Type 0} → Sample X → Content → List (Slots X)
may_be_items s (argument_content start name spec (target_list range) end) =
    items_of_all (unwrap_or (candidates_under s name) [])
may_be_items s _ = []

module _ {X : Type 0} (shows : X → Trait → Spec → Shown) where
  -- the faults of the values that may be there, if the argument asks for a value
  abbrev pub value_faults : Trait → Spec → (end : ℕ) → List (Slots X) → List Fault
  value_faults t spec end ts =
      fault_if (some_missing shows t spec ts) (missing_trait_impl t end)
      ++ fault_if (some_failed shows t spec ts) (fmt end)

  -- the faults by what the argument asks for: if it is a list, that one of these has no list
  abbrev pub target_faults : Target → Spec → (end : ℕ) → List (Slots X) → List Fault
  target_faults (target_value t) spec end ts = value_faults t spec end ts
  target_faults (target_list range) spec end ts =
      fault_if (list_any has_no_list ts) (missing_trait_impl traits.Iter end)

  -- the faults of what was found under a name, or that nothing was found
  abbrev pub found_faults : (start : ℕ) (name : List ℕ) → Target → Spec → (end : ℕ)
      → Option (List (Slots X)) → List Fault
  found_faults start name target spec end None = missing_value name start ∷ []
  found_faults start name target spec end (Some ts) = target_faults target spec end ts

  -- the faults that a piece has with the sample
  abbrev pub asked_faults : Sample X → Content → List Fault
  asked_faults s (text_content from cs) = []
  asked_faults s (argument_content start name spec target end) =
      found_faults start name target spec end (candidates_under s name)
  asked_faults s (fault_content f) = []

  -- items without a format are displayed plainly
  abbrev pub plain_faults : Content → List (Slots X) → List Fault
  plain_faults (argument_content start name spec target end) ts =
      value_faults traits.Display plain_spec end ts
  plain_faults _ ts = []

  -- ---- at every depth

  abbrev mutual
    -- the faults of a piece: those with the sample, its own, those of its item format with each
    -- item that it may have, those of its join, and that it is not closed
    pub node_faults_in : Sample X → Node → List Fault
    node_faults_in s (node place end kind None item join) = []
    node_faults_in s (node place end kind (Some content) item join) =
        asked_faults s content ++ (fault_list (own_fault content)
        ++ (item_faults_in s content item ++ (join_faults_in s join
        ++ fault_list (end_fault kind content))))

    pub item_faults_in : Sample X → Content → Branch → List Fault
    item_faults_in s content no_branch = plain_faults content (may_be_items s content)
    item_faults_in s content (branch xs) =
        forest_faults_in (bind_each s (may_be_items s content)) xs

    pub join_faults_in : Sample X → Branch → List Fault
    join_faults_in s no_branch = []
    join_faults_in s (branch xs) = forest_faults_in s xs

    -- those of pieces, in order
    pub forest_faults_in : Sample X → Forest → List Fault
    forest_faults_in s no_nodes = []
    forest_faults_in s (nodes_and x xs) = node_faults_in s x ++ forest_faults_in s xs

  -- all faults of a text against a sample, at every depth of groups, in order, each once
  abbrev pub faults_over : (List ℕ → Option (Slots X)) → At → List Fault
  faults_over finds a = forest_faults_in (sample finds) (as_forest (nodes a))

  -- ---- of what is stored, if it fits its text

  -- the faults that a stored piece has with the sample
  abbrev pub asked_of : Sample X → Option Content → List Fault
  asked_of s None = []
  asked_of s (Some content) = asked_faults s content

  -- those of its item format
  abbrev pub item_of : Sample X → Option Content → Branch → List Fault
  item_of s None item = []
  item_of s (Some content) item = item_faults_in s content item

-- the items that a stored piece may have
abbrev pub items_of_content : {X : Type 0} → Sample X → Option Content → List (Slots X)
items_of_content s None = []
items_of_content s (Some content) = may_be_items s content

-- ---- lists that are made whole in memory

-- whether what a piece holds is a list under a width
abbrev pub content_pads : Option Content → Bool
content_pads (Some (argument_content start name spec (target_list range) end)) = is_some spec.width
content_pads _ = false

abbrev mutual
  -- whether a piece, or one in its groups, is a list under a width
  pub node_pads : Node → Bool
  node_pads (node place end kind content item join) =
      content_pads content || (branch_pads item || branch_pads join)

  pub branch_pads : Branch → Bool
  branch_pads no_branch = false
  branch_pads (branch xs) = forest_pads xs

  pub forest_pads : Forest → Bool
  forest_pads no_nodes = false
  forest_pads (nodes_and x xs) = node_pads x || forest_pads xs

-- whether some list in a text is under a width, at any depth of groups
abbrev pub pads_a_list : At → Bool
pads_a_list a = forest_pads (as_forest (nodes a))
