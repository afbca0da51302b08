-- The faults that a format has by itself, whatever its context.
use Rattle.std.specs.Prelude.{◌≡◌, ◌⊎◌, ℕ, List, [], ◌∷◌, ◌++◌, Option, Some, None, codes}
use Rattle.std.specs.Prelude.{if◌then◌else◌}
use Rattle.interpolator_syntax.specs.Faults.{Fault, expected, parse, iter, argument_fault_of}
use Rattle.interpolator_syntax.specs.Nodes.{Node, node, Branch, no_branch, branch, as_forest}
use Rattle.interpolator_syntax.specs.Nodes.{Forest, group_branch, no_nodes, nodes_and, nodes}
use Rattle.interpolator_syntax.specs.Nodes.{Content, text_content, argument_content, fault_content}
use Rattle.interpolator_syntax.specs.Nodes.{target_value, target_list}
use Rattle.interpolator_syntax.specs.{Places.At, ArgumentFaults.IsArgumentFault, Lists.ListRequest}
use Rattle.interpolator_eval.specs.Meaning.Meanings.{forbids_list}
use Rattle.interpolator_pieces.specs.Visits.{Visit, enter, leave}
use Rattle.interpolator_pieces.specs.{Stored.detail_of, StoredMeanings.unclosed_fault_of}
use Rattle.interpolator_pieces.specs.declared.piece.Form.{Form}
use Rattle.interpolator_render.specs.declared.view.Spec.{Spec}
use Rattle.interpolator_pieces.specs.declared.piece.Form.TheVariants as forms
use Rattle.interpolator_pieces.specs.declared.{piece.Piece.Piece, piece.Piece.TheViews.out-Piece}
use Rattle.interpolator_syntax.specs.declared.piece_kind.PieceKind.{PieceKind}

-- at most one fault, as a list
abbrev pub fault_list : Option Fault → List Fault
fault_list None = []
fault_list (Some f) = f ∷ []

-- the first of some faults, if there is one
abbrev pub first_fault : List Fault → Option Fault
first_fault [] = None
first_fault (f ∷ fs) = Some f

-- the fault that a piece has by itself: that of a broken argument, or that the spec of a list has
-- what it may not have
abbrev pub own_fault : Content → Option Fault
own_fault (text_content from cs) = None
own_fault (argument_content start name spec (target_value t) end) = None
own_fault (argument_content start name spec (target_list range) end) =
    if forbids_list spec then Some (parse (iter end)) else None
own_fault (fault_content f) = Some f

-- the fault that a piece has by itself, by its form
abbrev pub form_fault : Spec → (end : ℕ) → Form → Option Fault
form_fault spec end (forms.List range) = if forbids_list spec then Some (parse (iter end)) else None
form_fault spec end (forms.Broken fault) = Some (argument_fault_of fault)
form_fault spec end _ = None

-- the fault that a stored piece has by itself
abbrev pub stored_own_fault : Piece → Option Fault
stored_own_fault x = form_fault (detail_of x).spec (detail_of x).spec_end (detail_of x).form

-- the fault that it is not closed
abbrev pub end_fault : PieceKind → Content → Option Fault
end_fault kind (argument_content start name spec target end) = unclosed_fault_of kind end
end_fault kind _ = None

-- the fault that an argument is not closed, by its form
abbrev pub form_end_fault : PieceKind → (end : ℕ) → Form → Option Fault
form_end_fault kind end forms.Text = None
form_end_fault kind end (forms.Broken fault) = None
form_end_fault kind end _ = unclosed_fault_of kind end

-- the fault that a stored piece is not closed
abbrev pub stored_end_fault : Piece → Option Fault
stored_end_fault x =
    form_end_fault (out-Piece x).kind (detail_of x).spec_end (detail_of x).form

abbrev mutual
  -- the faults of a piece: its own, those of its item format, those of its join, and that it is not
  -- closed
  pub node_faults : Node → List Fault
  node_faults (node place end kind None item join) = []
  node_faults (node place end kind (Some content) item join) =
      fault_list (own_fault content) ++ (branch_faults item ++ (branch_faults join
      ++ fault_list (end_fault kind content)))

  -- those of a group
  pub branch_faults : Branch → List Fault
  branch_faults no_branch = []
  branch_faults (branch xs) = forest_faults xs

  -- those of pieces, in order
  pub forest_faults : Forest → List Fault
  forest_faults no_nodes = []
  forest_faults (nodes_and x xs) = node_faults x ++ forest_faults xs

-- all faults that a text has by itself, at every depth of groups, in order
abbrev pub text_faults : At → List Fault
text_faults a = forest_faults (as_forest (nodes a))

-- the fault that is met when a piece is entered, or when it is left
abbrev pub visit_faults : Visit → List Fault
visit_faults (enter level (node place end kind (Some content) item join)) =
    fault_list (own_fault content)
visit_faults (leave level (node place end kind (Some content) item join)) =
    fault_list (end_fault kind content)
visit_faults _ = []

-- ---- of an argument that is read

-- that the brace after its spec is missing, which ends at `end`; none if it is there
abbrev pub brace_faults : (end : ℕ) → (after : Option At) → List Fault
brace_faults end None = parse (expected (codes "}") end) ∷ []
brace_faults end (Some after) = []

-- those of a list, but for that
abbrev pub list_faults : Spec → (end : ℕ) → ListRequest → List Fault
list_faults spec end l =
    fault_list (if forbids_list spec then Some (parse (iter end)) else None)
    ++ (branch_faults (group_branch nodes l.item) ++ branch_faults (group_branch nodes l.join))

-- a fault of the kinds that a text has by itself
abbrev pub IsOfText : Fault → Type 0
IsOfText f = IsArgumentFault f

-- ---- in words of the pieces

abbrev mutual
  -- a piece has this fault: by itself, in a piece of a group, or by not being closed
  pub NodeHas : Fault → Node → Type 0
  NodeHas f (node place end kind None item join) = ⊥
  NodeHas f (node place end kind (Some content) item join) =
      (own_fault content ≡ Some f) ⊎ BranchHas f item ⊎ BranchHas f join
      ⊎ (end_fault kind content ≡ Some f)

  -- a piece of a group has it
  pub BranchHas : Fault → Branch → Type 0
  BranchHas f no_branch = ⊥
  BranchHas f (branch xs) = ForestHas f xs

  -- one of some pieces has it
  pub ForestHas : Fault → Forest → Type 0
  ForestHas f no_nodes = ⊥
  ForestHas f (nodes_and x xs) = NodeHas f x ⊎ ForestHas f xs

-- a piece whose first fault this is, after pieces that have none
pub record FirstFaulty (f : Fault) (xs : List Node) : Type 0 where
  pub front : List Node
  pub piece : Node
  pub back : List Node
  pub split : xs ≡ front ++ (piece ∷ back)
  pub none_before : forest_faults (as_forest front) ≡ []
  pub reported : first_fault (node_faults piece) ≡ Some f
