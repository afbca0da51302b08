-- What the scan of a text keeps of a list that it met.
use Rattle.std.specs.Prelude.{◌≡◌, ℕ, ◌+◌, List, ◌++◌, true, false, Option, None, Some, option_map}
use Rattle.std.specs.Str.{chars}
use Rattle.interpolator_syntax.specs.Places.{At, at, size, strip}
use Rattle.interpolator_syntax.specs.Nodes.{Forest, no_nodes, nodes_and, as_forest, nodes}
use Rattle.interpolator_syntax.specs.Nodes.{group_branch, token_node}
use Rattle.interpolator_syntax.specs.{Arguments.list_of, Classes.close_brace, Pieces.argument_from}
use Rattle.interpolator_syntax.specs.{Tokens.argument, declared.cursor.Cursor.Cursor}
use Rattle.interpolator_eval.specs.Meaning.Sources.{ListArgument, FirstAsks, asks_list, from_list}
use Rattle.interpolator_eval.specs.declared.evaluate.scan.ScannedList.{ScannedList}

-- the pieces of a text
abbrev pub text_forest : At → Forest
text_forest a = as_forest (nodes a)

-- the list argument that was met
abbrev pub scanned_list : ScannedList → ListArgument
scanned_list l = record {
  start = l.start;
  name = chars l.name.now;
  range = l.asked.list.range;
  spec = l.asked.spec;
  end = l.end.place;
  item = group_branch nodes (list_of l.asked.list).item;
  join = group_branch nodes (list_of l.asked.list).join;
}

-- the pieces after its closing brace, if that is there
abbrev pub scanned_rest : ScannedList → Option Forest
scanned_rest l = option_map text_forest (strip close_brace (at l.end))

-- the result for an argument that begins at a, after a brace at p: None if it is this list, or what
-- follows it if it is no list
abbrev pub ArgumentReported : (p : ℕ) → (a : At) → ScannedList → Option Cursor → Type 0
ArgumentReported p a l None =
    (asks_list (token_node nodes p argument a) ≡ true)
    × FirstAsks (scanned_list l) (scanned_rest l)
    (nodes_and (token_node nodes p argument a) (text_forest (argument_from a.place a).rest))
ArgumentReported p a l (Some rest) =
    (asks_list (token_node nodes p argument a) ≡ false)
    × (at rest ≡ (argument_from a.place a).rest)

-- the first list of a text begins at this place: the pieces from it on are those of the text there
pub record ListAt (a : At) (place : ℕ) : Type 0 where
  pub front : List ℕ
  pub back : List ℕ
  pub split : a.text ≡ front ++ back
  pub after : place ≡ a.place + size front
  pub left : from_list (text_forest a) ≡ text_forest (record { place = place; text = back })

-- where the first list of a text begins, or that there is none
abbrev pub ListPlace : At → Option ℕ → Type 0
ListPlace a None = from_list (text_forest a) ≡ no_nodes
ListPlace a (Some place) = ListAt a place
