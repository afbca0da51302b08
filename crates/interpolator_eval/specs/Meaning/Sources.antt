-- What a source of a format consists of: its pieces up to the first list, and that list's argument.
use Rattle.std.specs.Prelude.{◌≡◌, ◌⊎◌, ◌+◌, ℕ, List, [], Bool, true, false, if◌then◌else◌, codes}
use Rattle.std.specs.Prelude.{Option, None, Some, is_some, option_map, Result, Ok, Err}
use Rattle.interpolator_render.specs.{declared.view.Spec.Spec, declared.view.Trait.Trait}
use Rattle.interpolator_render.specs.{declared.view.Trait.TheVariants.Display, Views.Shown}
use Rattle.interpolator_syntax.specs.Faults.{Fault, parse, expected}
use Rattle.interpolator_syntax.specs.Nodes.{Node, node, Branch, no_branch, branch, Forest, no_nodes}
use Rattle.interpolator_syntax.specs.Nodes.{nodes_and, text_node, Content, argument_content, Target}
use Rattle.interpolator_syntax.specs.Nodes.{target_value, target_list}
use Rattle.interpolator_syntax.specs.Groups.{Group, group_of}
use Rattle.interpolator_syntax.specs.declared.piece_kind.PieceKind.TheVariants.{Closed, Literal}
use Rattle.interpolator_syntax.specs.declared.piece_kind.PieceKind.TheVariants.{Unclosed}
use Rattle.interpolator_syntax.specs.{Places.placed_from, declared.piece_kind.PieceKind.PieceKind}
use Rattle.interpolator_syntax.specs.{SpecTexts.plain_spec, declared.range.Range.Range}
use Rattle.interpolator_eval.specs.Slots.{Slots, items}
use Rattle.interpolator_eval.specs.declared.evaluate.plain_item.PlainItem.{PlainItem}
use Rattle.interpolator_eval.specs.Meaning.Environments.{Environment, slots_under}
use Rattle.interpolator_eval.specs.Meaning.Lists.{list_under_name}
use Rattle.interpolator_eval.specs.Meaning.Meanings.{Meaning, nothing, chain, fault_alone}
use Rattle.interpolator_eval.specs.Meaning.Meanings.{items_mean, text_alone, node_means}
use Rattle.interpolator_eval.specs.Meaning.Meanings.{join_branch_means, item_branch_means}
use Rattle.interpolator_eval.specs.Meaning.Work.{Work, under_work, listed_work, items_work}
use Rattle.interpolator_eval.specs.Meaning.Work.{join_branch_work, item_branch_work}

-- ---- the first list of some pieces

-- an argument of this kind is a list
abbrev pub wants_list : Target → Bool
wants_list (target_value t) = false
wants_list (target_list range) = true

-- the content of a piece is a list argument
abbrev pub holds_list : Option Content → Bool
holds_list (Some (argument_content start name spec target end)) = wants_list target
holds_list _ = false

-- a piece is a list argument
abbrev pub asks_list : Node → Bool
asks_list (node place end kind content item join) = holds_list content

-- the pieces before the first list argument
abbrev pub before_list : Forest → Forest
before_list no_nodes = no_nodes
before_list (nodes_and x xs) = if asks_list x then no_nodes else nodes_and x (before_list xs)

-- the pieces from the first list argument on
abbrev pub from_list : Forest → Forest
from_list no_nodes = no_nodes
from_list (nodes_and x xs) = if asks_list x then nodes_and x xs else from_list xs

-- ---- list arguments

-- a list argument that starts at `start` and has its spec up to `end`, and the pieces of its
-- groups
pub record ListArgument : Type 0 where
  pub start : ℕ
  pub name : List ℕ
  pub range : Option Range
  pub spec : Spec
  pub end : ℕ
  pub item : Branch
  pub join : Branch

-- an argument of this kind has its closing brace
abbrev pub has_brace : PieceKind → Bool
has_brace Unclosed = false
has_brace _ = true

-- the first of the pieces xs is the list argument x; if it is closed, the pieces `after` follow it
pub record FirstAsks (x : ListArgument) (after : Option Forest) (xs : Forest) : Type 0 where
  pub place : ℕ
  pub last : ℕ
  pub kind : PieceKind
  pub rest : Forest
  pub first : xs
      ≡ nodes_and (node place last kind
      (Some (argument_content x.start x.name x.spec (target_list x.range) x.end))
      x.item x.join) rest
  pub closing : after ≡ (if has_brace kind then Some rest else None)

-- a list was met, or no pieces are left
abbrev pub Met : (met : Bool) → (ready : Type 0) → ListArgument → (after : Option Forest) → Forest
    → Type 0
Met true ready x after xs = ready × FirstAsks x after xs
Met false ready x after xs = xs ≡ no_nodes

-- a list that was met counts as a piece
abbrev pub met_pieces : {E : Type 0} → Result Bool E → ℕ
met_pieces (Ok true) = 1
met_pieces (Ok false) = 0
met_pieces (Err e) = 0

-- an item whose format has no pieces counts as one
abbrev pub empty_counts : Forest → ℕ
empty_counts no_nodes = 1
empty_counts (nodes_and x xs) = 0

-- the first of some pieces holds something, as each piece of a text does
abbrev pub first_holds : Forest → Bool
first_holds no_nodes = false
first_holds (nodes_and (node place end kind content item join) xs) = is_some content

-- a piece is an argument without name and spec, whose closing brace is at q
pub record IsBare (q : ℕ) (x : Node) : Type 0 where
  pub place : ℕ
  pub last : ℕ
  pub start : ℕ
  pub is : x
      ≡ node place last Closed
      (Some (argument_content start [] plain_spec (target_value Display) q)) no_branch no_branch

-- a piece is text without a brace
pub record IsRun (g : Group) (x : Node) : Type 0 where
  pub last : ℕ
  pub is : x ≡ text_node g.place last Literal g.text

-- pieces begin with such a text, if there is one, and then come the others
abbrev pub RunFirst : Option Group → (rest all : Forest) → Type 0
RunFirst None rest all = all ≡ rest
RunFirst (Some g) rest all = (x : Node) × IsRun g x × (all ≡ nodes_and x rest)

-- pieces are such an argument, and then a text, if there is one
pub record IsBareFirst (q : ℕ) (after : Option Group) (all : Forest) : Type 0 where
  pub argument : Node
  pub back : Forest
  pub bare : IsBare q argument
  pub is : all ≡ nodes_and argument back
  pub behind : RunFirst after no_nodes back

-- a group is such an argument, with a text before it and one after it, if they are there
pub record IsFramed (before : Option Group) (q : ℕ) (after : Option Group) (b : Branch)
    : Type 0 where
  pub all : Forest
  pub rest : Forest
  pub is : b ≡ branch all
  pub front : RunFirst before rest all
  pub bare : IsBareFirst q after rest

-- each item of a list is displayed plainly: its item format is such a group, or there is none
abbrev pub IsPlainItem : PlainItem → ListArgument → Type 0
IsPlainItem p x =
    ((x.item ≡ no_branch) × (x.end ≡ p.place) × (p.before ≡ None) × (p.after ≡ None))
    ⊎ IsFramed (option_map group_of p.before) p.place (option_map group_of p.after) x.item

-- a group is text without a brace
pub record IsText (g : Group) (b : Branch) : Type 0 where
  pub last : ℕ
  pub is : b ≡ branch (nodes_and (text_node g.place last Literal g.text) no_nodes)

-- the pieces of a group, by those of the source that begins it
abbrev pub branch_of : {S : Type 0} → (tree : S → Forest) → Option S → Branch
branch_of tree None = no_branch
branch_of tree (Some source) = branch (tree source)

-- ---- an item that is displayed plainly

-- a text that may be absent
abbrev pub run_means : Option Group → Meaning
run_means None = nothing
run_means (Some g) = text_alone (placed_from g.place g.text)

-- it counts as one piece
abbrev pub run_pieces : Option Group → ℕ
run_pieces None = 0
run_pieces (Some g) = 1

-- what an item shows, with a text before it and one after it
abbrev pub framed_means : (before after : Option Group) → (shown : Meaning) → Meaning
framed_means before after shown = chain (run_means before) (chain shown (run_means after))

-- through how many pieces that goes: a fault of the item is the last
abbrev pub framed_pieces : (before after : Option Group) → (fault : Option Fault) → ℕ
framed_pieces before after (Some f) = run_pieces before + 1
framed_pieces before after None = run_pieces before + (1 + run_pieces after)

-- ---- what it means

-- an argument, and after it the fault of the missing brace, if `follows` is None
abbrev pub with_brace : {A : Type 0} → (follows : Option A) → (end : ℕ) → Meaning → Meaning
with_brace (Some rest) end m = m
with_brace None end m = chain m (fault_alone (parse (expected (codes "}") end)))

module _ {X : Type 0} (shows : X → Trait → Spec → Shown) (e : Environment X) where
  -- what a piece means if it is no list argument
  abbrev pub unlisted_means : Node → Meaning
  unlisted_means x = if asks_list x then nothing else node_means shows e x

  module _ (x : ListArgument) where
    abbrev pub list_join : Meaning
    list_join = join_branch_means shows e x.join

    abbrev pub list_item : Slots X → Meaning
    list_item = item_branch_means shows e x.item x.end

    -- these items of it, with the join between two of them
    abbrev pub list_items : List (Slots X) → Meaning
    list_items chosen = items_mean list_join list_item chosen

    -- the list under its name
    abbrev pub list_meaning : Meaning
    list_meaning = list_under_name e x.name x.start x.range x.spec x.end list_join list_item

    -- the list, and after it the fault of the missing brace, if that is missing
    abbrev pub list_with_brace : (follows : Option Forest) → Meaning
    list_with_brace follows = with_brace follows x.end list_meaning

    -- ---- how many pieces it goes through

    abbrev pub list_join_work : Work
    list_join_work = join_branch_work shows e x.join

    abbrev pub list_item_work : Slots X → Work
    list_item_work = item_branch_work shows e x.item x.end

    abbrev pub list_items_work : List (Slots X) → Work
    list_items_work chosen = items_work list_join list_join_work list_item list_item_work chosen

    abbrev pub list_work : Work
    list_work =
        under_work
        (λ found. listed_work list_join list_join_work list_item list_item_work x.range x.spec
        (items found))
        (slots_under e x.name)
