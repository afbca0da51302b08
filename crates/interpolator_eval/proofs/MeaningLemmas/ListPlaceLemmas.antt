-- Where the first list of a text begins.
use Rattle.std.proofs.Common.{◌≡◌, ◌∙◌, sym, ap, subst, refl, arith, ℕ, suc, Bool, true, false, []}
use Rattle.std.proofs.Common.{Some, None, Option, Result}
use Rattle.interpolator_syntax.specs.Nodes.{Node, Forest, nodes_and, nodes, piece_node, token_node}
use Rattle.interpolator_syntax.specs.Tokens.{Token, argument, first_token, past_token}
use Rattle.interpolator_syntax.specs.{Arguments.Argument, Arguments.argument_at, Places.At}
use Rattle.interpolator_syntax.specs.{Faults.Fault, Pieces.argument_from, Pieces.argument_or_broken}
use Rattle.interpolator_syntax.proofs.LocalityLemmas.{Takes, stands, takes_then}
use Rattle.interpolator_syntax.proofs.NodeLemmas.{by_token}
use Rattle.interpolator_syntax.proofs.TokenTextLemmas.{takes_token, scan_taken}
use Rattle.interpolator_eval.specs.Meaning.ScannedLists.{ListAt, text_forest}
use Rattle.interpolator_eval.specs.Meaning.Sources.{ListArgument, FirstAsks, asks_list, from_list}
use Rattle.interpolator_eval.proofs.MeaningLemmas.FirstPieceLemmas.{left_after, left_here}
use Rattle.interpolator_eval.proofs.MeaningLemmas.ScanLemmas.{text_none, text_next}

-- the first list of a text begins at the byte before its argument
pub record Found (a : At) (start : ℕ) : Type 0 where
  pub place : ℕ
  pub begins : start ≡ suc place
  pub list : ListAt a place

module _ (x : ListArgument) (after : Option Forest) where
  abbrev Finds : At → Type 0
  Finds a = FirstAsks x after (from_list (text_forest a)) → Found a x.start

  -- a text without a piece has no list
  none_found : (a : At) → first_token a ≡ None → Finds a
  none_found a e h = absurd (grind (arith, text_none))

  -- a list argument starts where the text after its brace does
  or_broken_starts :
      (p end : ℕ) (b : At) (rest : Forest) (o : Result (Argument × At) Fault)
      → FirstAsks x after
      (nodes_and (piece_node nodes p end (argument_or_broken b.place b o).piece.kind) rest)
      → x.start ≡ b.place
  or_broken_starts p end b rest o h = grind arith

  token_starts :
      (p : ℕ) (t : Token) (b : At) (rest : Forest)
      → FirstAsks x after (nodes_and (token_node nodes p t b) rest)
      → (t ≡ argument) × (x.start ≡ b.place)
  unfolding argument_from
  token_starts p argument b rest h = (refl, or_broken_starts p _ b rest (argument_at b) h)
  token_starts p t b rest h = absurd (grind arith)

  module _ (a b : At) (t : Token) (e : first_token a ≡ Some (t, b)) where
    abbrev First : Node
    First = token_node nodes a.place t b

    abbrev Rest : Forest
    Rest = text_forest (past_token t b)

    -- the first piece is the list
    here_found : asks_list First ≡ true → Finds a
    here_found listed h =
        let left : from_list (text_forest a) ≡ nodes_and First Rest =
        ap from_list (text_next a (t, b) e) ∙ left_here First Rest listed in
        let starts = token_starts a.place t b Rest (subst (FirstAsks x after) left h) in
        let size = (takes_token a (t, b) e).size in
        record {
          place = a.place;
          begins = grind (arith, starts.0, starts.1, size);
          list = record {
            front = [];
            back = a.text;
            split = refl;
            after = omega arith;
            left = left ∙ sym (text_next a (t, b) e);
          };
        }

    -- it is among the pieces after the first
    later_found : asks_list First ≡ false → Finds (past_token t b) → Finds a
    later_found other finds h =
        let left : from_list (text_forest a) ≡ from_list Rest =
        ap from_list (text_next a (t, b) e) ∙ left_after First Rest other in
        let found = finds (subst (FirstAsks x after) left h) in
        let end = stands found.place found.list.back in
        let inner : Takes (past_token t b) end = record {
          front = found.list.front;
          split = found.list.split;
          place = found.list.after;
        } in
        let taken = takes_then a (past_token t b) end (scan_taken a (t, b) e) inner in
        record {
          place = found.place;
          begins = found.begins;
          list = record {
            front = taken.front;
            back = found.list.back;
            split = taken.split;
            after = taken.place;
            left = left ∙ found.list.left;
          };
        }

    token_found : Finds (past_token t b) → Finds a
    token_found finds = by_asked (asks_list First) refl
      where
        by_asked : (o : Bool) → asks_list First ≡ o → Finds a
        by_asked true listed = here_found listed
        by_asked false other = later_found other finds

  -- it is found in each text
  pub list_found : (a : At) → Finds a
  list_found = by_token Finds none_found token_found
