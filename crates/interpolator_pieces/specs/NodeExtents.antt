-- How wide and how deep a format is.
use Rattle.std.specs.Prelude.{ℕ, suc, max, Option, Some, unwrap_or}
use Rattle.interpolator_render.specs.declared.view.Spec.{Spec}
use Rattle.interpolator_syntax.specs.Nodes.{Node, node, Branch, no_branch, branch, Forest, no_nodes}
use Rattle.interpolator_syntax.specs.Nodes.{nodes_and, Content, argument_content}
use Rattle.interpolator_pieces.specs.Visits.{Visit, enter, leave}
use Rattle.interpolator_pieces.specs.declared.piece.Form.{Form}
use Rattle.interpolator_pieces.specs.declared.piece.Form.TheVariants as forms
use Rattle.interpolator_pieces.specs.{declared.piece.Piece.Piece, Stored.detail_of}

-- the width or the precision of a spec, whichever is greater, and 0 if neither is set
abbrev pub spec_extent : Spec → ℕ
spec_extent spec = max (unwrap_or spec.width 0) (unwrap_or spec.precision 0)

-- the extent of what a piece holds
abbrev pub content_extent : Option Content → ℕ
content_extent (Some (argument_content start name spec target end)) = spec_extent spec
content_extent _ = 0

-- the extent of a stored piece, without its groups
abbrev pub form_extent : Spec → Form → ℕ
form_extent spec (forms.Value t) = spec_extent spec
form_extent spec (forms.List range) = spec_extent spec
form_extent spec _ = 0

abbrev pub stored_extent : Piece → ℕ
stored_extent x = form_extent (detail_of x).spec (detail_of x).form

-- the extent of a piece, without its groups, which is met when it is entered
abbrev pub visit_extent : Visit → ℕ
visit_extent (enter level (node place end kind content item join)) = content_extent content
visit_extent (leave level x) = 0

abbrev mutual
  -- the greatest width or precision of a piece, and of those in its groups
  pub node_extent : Node → ℕ
  node_extent (node place end kind content item join) =
      max (content_extent content) (max (branch_extent item) (branch_extent join))

  -- that of the pieces of a group, 0 without it
  pub branch_extent : Branch → ℕ
  branch_extent no_branch = 0
  branch_extent (branch xs) = forest_extent xs

  -- that of pieces, and of those in their groups
  pub forest_extent : Forest → ℕ
  forest_extent no_nodes = 0
  forest_extent (nodes_and x xs) = max (node_extent x) (forest_extent xs)

abbrev mutual
  -- how deep groups are nested
  pub node_depth : Node → ℕ
  node_depth (node place end kind content item join) = max (branch_depth item) (branch_depth join)

  pub branch_depth : Branch → ℕ
  branch_depth no_branch = 0
  branch_depth (branch xs) = suc (forest_depth xs)

  pub forest_depth : Forest → ℕ
  forest_depth no_nodes = 0
  forest_depth (nodes_and x xs) = max (node_depth x) (forest_depth xs)

-- how many groups the pieces of a group are in, if its argument is in `depth`; 0 without a group
abbrev pub inner_depth : (depth : ℕ) → Branch → ℕ
inner_depth depth no_branch = 0
inner_depth depth (branch xs) = suc depth

-- how many groups the pieces of its groups are in, which is met when a piece is entered
abbrev pub visit_depth : Visit → ℕ
visit_depth (enter level (node place end kind content item join)) =
    max (inner_depth level.depth item) (inner_depth level.depth join)
visit_depth (leave level x) = 0
