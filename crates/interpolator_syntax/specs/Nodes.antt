-- A format text as a tree: its pieces in order, with neighbouring literals as one, and under each
-- list the pieces of its groups.
use Rattle.std.specs.Prelude.{ℕ, zero, suc, List, [], ◌∷◌, length, Option, Some, None, option_map}
use Rattle.interpolator_render.specs.{declared.view.Trait.Trait, declared.view.Spec.Spec}
use Rattle.interpolator_syntax.specs.Pieces.{PieceKind, literal, doubled, lone_close, closed}
use Rattle.interpolator_syntax.specs.Pieces.{unclosed, broken, argument_from}
use Rattle.interpolator_syntax.specs.SpecTexts.{Kind, of_value, of_list}
use Rattle.interpolator_syntax.specs.Tokens.{Token, literals, argument, first_token, past_token}
use Rattle.interpolator_syntax.specs.Tokens.{doubled as doubled_token, lone_close as lone_token}
use Rattle.interpolator_syntax.specs.{Places.At, Arguments.Argument, Classes.close_brace}
use Rattle.interpolator_syntax.specs.{Faults.Fault}
use Rattle.interpolator_syntax.specs.{Groups.Group, Groups.inside, declared.range.Range.Range}
use Rattle.interpolator_syntax.specs.declared.piece_kind.PieceKind as reported
use Rattle.interpolator_syntax.specs.declared.piece_kind.PieceKind.TheVariants.{Literal, Doubled}
use Rattle.interpolator_syntax.specs.declared.piece_kind.PieceKind.TheVariants.{LoneClose, Closed}
use Rattle.interpolator_syntax.specs.declared.piece_kind.PieceKind.TheVariants.{Unclosed, Broken}

-- the kind of an argument, without its groups: a value under a trait, or a list, whose items a
-- range chooses
pub data Target : Type 0 where
  target_value : Trait → Target
  target_list : (range : Option Range) → Target

-- a kind without its groups
abbrev pub target_of : Kind → Target
target_of (of_value t) = target_value t
target_of (of_list l) = target_list l.range

-- the content of a piece: text that is written, whose first character is at `from`; a name, in an
-- argument that begins at `start` and whose spec ends at `end`; or a fault
pub data Content : Type 0 where
  text_content : (from : ℕ) (text : List ℕ) → Content
  argument_content : (start : ℕ) (name : List ℕ) (spec : Spec) (target : Target) (end : ℕ) → Content
  fault_content : (fault : Fault) → Content

mutual
  -- a piece from byte `place` up to `end`, with the pieces of its item format and of its join;
  -- if `content` is None, what is stored for it belongs to no text
  pub data Node : Type 0 where
    node :
        (place end : ℕ) (kind : reported.PieceKind) (content : Option Content) (item join : Branch)
        → Node

  -- the pieces of a group, if there is one
  pub data Branch : Type 0 where
    no_branch : Branch
    branch : Forest → Branch

  -- pieces in order
  pub data Forest : Type 0 where
    no_nodes : Forest
    nodes_and : Node → Forest → Forest

-- a list of pieces
abbrev pub as_forest : List Node → Forest
as_forest [] = no_nodes
as_forest (x ∷ xs) = nodes_and x (as_forest xs)

-- the pieces of a group that may be absent
abbrev pub as_branch : Option (List Node) → Branch
as_branch None = no_branch
as_branch (Some xs) = branch (as_forest xs)

-- a piece that writes the characters cs, the first of which is at its first byte
abbrev pub text_node : (p end : ℕ) → reported.PieceKind → List ℕ → Node
text_node p end kind cs = node p end kind (Some (text_content p cs)) no_branch no_branch

-- `run` returns the pieces of a text within this one
module _ (run : At → List Node) where
  -- those of a group
  abbrev pub group_branch : Option Group → Branch
  group_branch g = as_branch (option_map (λ g. run (inside g)) g)

  -- those of an item format
  abbrev pub item_branch : Kind → Branch
  item_branch (of_value t) = no_branch
  item_branch (of_list l) = group_branch l.item

  -- those of a join
  abbrev pub join_branch : Kind → Branch
  join_branch (of_value t) = no_branch
  join_branch (of_list l) = group_branch l.join

  -- an argument that begins at `start` and whose spec ends at `q`
  abbrev pub argument_node : (p end : ℕ) → reported.PieceKind → (start : ℕ) → Argument → (q : ℕ) → Node
  argument_node p end kind start x q =
      node p end kind (Some (argument_content start x.name x.spec (target_of x.kind) q))
      (item_branch x.kind) (join_branch x.kind)

  -- a piece from p up to `end`, by its kind
  abbrev pub piece_node : (p end : ℕ) → PieceKind → Node
  piece_node p end (literal c) = text_node p end Literal (c ∷ [])
  piece_node p end (doubled c) = text_node p end Doubled (c ∷ [])
  piece_node p end lone_close = text_node p end LoneClose (close_brace ∷ [])
  piece_node p end (closed start x q) = argument_node p end Closed start x q
  piece_node p end (unclosed start x q) = argument_node p end Unclosed start x q
  piece_node p end (broken f) = node p end Broken (Some (fault_content f)) no_branch no_branch

  -- a token at p, if the text at b comes after it
  abbrev pub token_node : (p : ℕ) → Token → (b : At) → Node
  token_node p (literals cs) b = text_node p b.place Literal cs
  token_node p (doubled_token c) b = text_node p b.place Doubled (c ∷ [])
  token_node p lone_token b = text_node p b.place LoneClose (close_brace ∷ [])
  token_node p argument b =
      let s = argument_from b.place b in piece_node p s.rest.place s.piece.kind

  -- the first piece at p, and then the pieces of the text after it
  abbrev pub leading_nodes : (p : ℕ) → Option (Token × At) → List Node
  leading_nodes p None = []
  leading_nodes p (Some w) = token_node p w.0 w.1 ∷ run (past_token w.0 w.1)

-- the pieces of a text of at most `most` characters
abbrev pub nodes_within : (most : ℕ) → At → List Node
nodes_within zero a = []
nodes_within (suc most) a = leading_nodes (nodes_within most) a.place (first_token a)

-- the pieces of a text: the text after a piece, and that of each group, is shorter than the text
unfoldable pub nodes : At → List Node
nodes a = nodes_within (length a.text) a
