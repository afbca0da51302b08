-- How the code stores the pieces of a text: for each what it is, and which bytes of the text it is
-- cut from.
use Rattle.std.specs.Prelude.{◌≡◌, ℕ, suc, ◌+◌, ◌-◌, Bool, true, false, ◌&&◌, ◌||◌, not, nat_lt}
use Rattle.std.specs.Prelude.{if◌then◌else◌, List, [], ◌∷◌, ◌++◌, length, take, drop, slice_index}
use Rattle.std.specs.Prelude.{Option, Some, None, option_map, map}
use Rattle.std.specs.{Str.chars, Str.IsUtf8, Global.Vec, Global.Box}
use Rattle.interpolator_render.specs.declared.view.Spec.{Spec}
use Rattle.interpolator_render.specs.declared.view.Trait.TheVariants as traits
use Rattle.interpolator_syntax.specs.Places.{At, size, outermost}
use Rattle.interpolator_syntax.specs.Groups.{Group, inside}
use Rattle.interpolator_syntax.specs.Nodes.{Node, node, Branch, no_branch, branch, Forest, no_nodes}
use Rattle.interpolator_syntax.specs.Nodes.{nodes_and, as_branch, nodes, group_branch, Content}
use Rattle.interpolator_syntax.specs.Nodes.{text_content, argument_content, fault_content}
use Rattle.interpolator_syntax.specs.Nodes.{target_value, target_list}
use Rattle.interpolator_syntax.specs.declared.piece_kind.PieceKind.TheVariants.{Closed, Doubled}
use Rattle.interpolator_syntax.specs.{Faults.argument_fault_of, SpecTexts.plain_spec}
use Rattle.interpolator_syntax.specs.declared.piece_kind.PieceKind.{PieceKind}
use Rattle.interpolator_pieces.specs.{declared.piece.Detail.Detail, declared.piece.Form.Form}
use Rattle.interpolator_pieces.specs.declared.piece.Form.TheVariants as forms
use Rattle.interpolator_pieces.specs.declared.{piece.Piece.Piece, piece.Piece.TheOpen.Piece-F}
use Rattle.interpolator_pieces.specs.declared.piece.Piece.TheFolds.{fold-Piece}
use Rattle.interpolator_pieces.specs.declared.piece.Piece.TheViews.{out-Piece}

-- whether a text may be cut before this byte: it is the end of the text, or begins a character
abbrev pub may_cut : List ℕ → ℕ → Bool
may_cut bs i =
    not (nat_lt (length bs) i) && (not (nat_lt i (length bs))
    || (nat_lt (slice_index bs i) 128 || not (nat_lt (slice_index bs i) 192)))

-- the characters from one byte up to another, if the text may be cut at both
unfoldable pub part : List ℕ → (from to : ℕ) → Option (List ℕ)
part bs from to =
    if not (nat_lt to from) && (may_cut bs from && may_cut bs to)
    then Some (chars (take (to - from) (drop from bs))) else None

-- the characters of a name that begins after the byte `place`
abbrev pub name_part : List ℕ → (place from to : ℕ) → Option (List ℕ)
name_part bs place from to = if nat_lt place from then part bs from to else None

-- what a piece at `place` holds, by its form, the bytes that are stored of it, and the end of its
-- spec
abbrev pub stored_content : List ℕ → (place from to end : ℕ) → Spec → Form → Option Content
stored_content bs place from to end spec forms.Text =
    option_map (λ cs. text_content from cs) (part bs from to)
stored_content bs place from to end spec forms.Plain =
    option_map (λ name. argument_content (suc place) name plain_spec (target_value traits.Display) end)
    (name_part bs place from to)
stored_content bs place from to end spec (forms.Value t) =
    option_map (λ name. argument_content (suc place) name spec (target_value t) end) (name_part bs place from to)
stored_content bs place from to end spec (forms.List range) =
    option_map (λ name. argument_content (suc place) name spec (target_list range) end)
    (name_part bs place from to)
stored_content bs place from to end spec (forms.Broken fault) =
    Some (fault_content (argument_fault_of fault))

-- what a detail tells of a piece at `place`
abbrev pub detail_content : List ℕ → (place : ℕ) → Detail → Option Content
detail_content bs place d = stored_content bs place d.from d.to d.spec_end d.spec d.form

-- ---- a piece without a detail: of its kind alone

-- it is text, or a name with nothing beside it
abbrev pub bare_form : PieceKind → Form
bare_form Closed = forms.Plain
bare_form _ = forms.Text

-- its text is all of it, but one of two braces; its name lies between its braces
abbrev pub bare_from : (place : ℕ) → PieceKind → ℕ
bare_from place Closed = suc place
bare_from place _ = place

abbrev pub bare_to : (end : ℕ) → PieceKind → ℕ
bare_to end Closed = end - 1
bare_to end Doubled = end - 1
bare_to end _ = end

abbrev pub bare_detail : (place end : ℕ) → PieceKind → Detail
bare_detail place end kind = record {
  from = bare_from place kind;
  to = bare_to end kind;
  spec_end = bare_to end kind;
  spec = plain_spec;
  form = bare_form kind;
}

-- it has neither a detail nor groups
abbrev pub StandsAlone : Piece → Type 0
StandsAlone x =
    ((out-Piece x).detail ≡ None) × ((out-Piece x).item ≡ None) × ((out-Piece x).join ≡ None)

-- ---- a piece

-- the detail that is stored, or the bare one
unfoldable pub detail_or_bare : (place end : ℕ) → PieceKind → Option (Box Detail) → Detail
detail_or_bare place end kind None = bare_detail place end kind
detail_or_bare place end kind (Some detail) = detail.value

-- what is written of a piece, and how
abbrev pub detail_of : Piece → Detail
detail_of x =
    let y = out-Piece x in detail_or_bare y.place y.end y.kind y.detail

-- the node of a piece whose groups have become nodes
abbrev pub node_step : List ℕ → Piece-F Node → Node
node_step bs x =
    node x.place x.end x.kind
    (detail_content bs x.place (detail_or_bare x.place x.end x.kind x.detail))
    (as_branch (option_map (λ xs. xs.items) x.item))
    (as_branch (option_map (λ xs. xs.items) x.join))

-- the node of a stored piece
unfoldable pub node_of : List ℕ → Piece → Node
node_of bs x = fold-Piece Node (node_step bs) x

-- what a stored piece holds
abbrev pub content_of : List ℕ → Piece → Option Content
content_of bs x = detail_content bs (out-Piece x).place (detail_of x)

-- the nodes of stored pieces
abbrev pub nodes_of : List ℕ → List Piece → List Node
nodes_of bs xs = map (node_of bs) xs

-- the pieces of a stored group
abbrev pub branch_of : List ℕ → Option (Vec Piece) → Branch
branch_of bs xs = as_branch (option_map (λ xs. nodes_of bs xs.items) xs)

-- whether all that is stored of a node, and of the nodes below it, fits its text
abbrev mutual
  pub node_whole : Node → Bool
  node_whole (node place end kind None item join) = false
  node_whole (node place end kind (Some content) item join) = branch_whole item && branch_whole join

  pub branch_whole : Branch → Bool
  branch_whole no_branch = true
  branch_whole (branch xs) = forest_whole xs

  pub forest_whole : Forest → Bool
  forest_whole no_nodes = true
  forest_whole (nodes_and x xs) = node_whole x && forest_whole xs

-- one text lies in another, at its place
pub record Within (whole a : At) : Type 0 where
  pub front : List ℕ
  pub back : List ℕ
  pub split : whole.text ≡ front ++ (a.text ++ back)
  pub place : a.place ≡ whole.place + size front

-- in every format that has this text at its place, the stored pieces are the pieces of the text
abbrev pub StandFor : List Piece → At → Type 0
StandFor xs a =
    (bs : List ℕ) → IsUtf8 bs → Within (outermost (chars bs)) a → nodes_of bs xs ≡ nodes a

-- one stored piece was added after others, and it is that node in every format that has this text
-- at its place
pub record Pushed (old new : List Piece) (n : Node) (a : At) : Type 0 where
  pub piece : Piece
  pub added : new ≡ old ++ (piece ∷ [])
  pub stands :
      (bs : List ℕ) → IsUtf8 bs → Within (outermost (chars bs)) a → node_of bs piece ≡ n

-- the stored pieces are those of a group, if there is one
abbrev pub GroupStands : Option (Vec Piece) → Option Group → Type 0
GroupStands xs None = xs ≡ None
GroupStands xs (Some g) =
    (bs : List ℕ) → IsUtf8 bs → Within (outermost (chars bs)) (inside g)
    → branch_of bs xs ≡ group_branch nodes (Some g)
