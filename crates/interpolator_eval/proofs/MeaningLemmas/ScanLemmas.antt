-- The outcome of a text up to its first list, from those of its first token and of the rest; and
-- the outcome of an argument, from that of its value.
use Rattle.std.proofs.Common.{◌≡◌, ◌≢◌, refl, arith, ℕ, true, false, [], Option, None, Some}
use Rattle.std.proofs.Common.{option_map, Ok, Err}
use Rattle.interpolator_render.specs.{Writers.Written, declared.view.Trait.Trait}
use Rattle.interpolator_render.specs.{declared.view.Spec.Spec, Views.Shown}
use Rattle.interpolator_syntax.specs.Arguments.{Argument, argument_at, argument_after, asked_at}
use Rattle.interpolator_syntax.specs.Arguments.{named_argument, plain_argument}
use Rattle.interpolator_syntax.specs.Nodes.{Node, no_nodes, nodes_and, nodes, group_branch}
use Rattle.interpolator_syntax.specs.Nodes.{piece_node, token_node}
use Rattle.interpolator_syntax.specs.Tokens.{Token, first_token, past_token, argument}
use Rattle.interpolator_syntax.specs.{Places.At, Places.at, Places.strip, Classes.close_brace}
use Rattle.interpolator_syntax.specs.{Faults.Fault}
use Rattle.interpolator_syntax.specs.{Faults.Answer, Faults.fault, Lists.ListRequest}
use Rattle.interpolator_syntax.specs.{Pieces.argument_from, Pieces.argument_step, SpecTexts.Request}
use Rattle.interpolator_syntax.specs.{SpecTexts.of_value, SpecTexts.of_list}
use Rattle.interpolator_syntax.specs.declared.argument.ArgumentName.{ArgumentName}
use Rattle.interpolator_syntax.proofs.NodeLemmas.{nodes_first, nodes_none}
use Rattle.interpolator_eval.specs.Meaning.Meanings.{Meaning, argument_means}
use Rattle.interpolator_eval.specs.Meaning.Sources.{asks_list, unlisted_means, ListArgument}
use Rattle.interpolator_eval.specs.Meaning.Sources.{FirstAsks, first_holds, with_brace}
use Rattle.interpolator_eval.specs.Meaning.Environments.{Environment}
use Rattle.interpolator_eval.specs.{Meaning.ScannedLists.text_forest, Meaning.Outcomes.Outcome}
use Rattle.interpolator_eval.proofs.MeaningLemmas.SinkLemmas.{fault_first, nothing_done, ended}

-- an argument whose name was read, by the request after it
module _ (a : At) (n : ArgumentName)
    (named : argument_at a ≡ argument_after a.place (plain_argument n) (at n.end)) where
  pub asked_ok : (asked : Request) (q : At) → Ok (asked, q) ≡ asked_at a.place (at n.end)
      → argument_at a ≡ Ok (named_argument n asked, q)
  asked_ok asked q h = grind arith

  pub asked_broken : (f : Fault) → Err f ≡ asked_at a.place (at n.end) → argument_at a ≡ Err f
  asked_broken f h = grind arith

-- ---- the missing brace

-- an argument whose value ends the run
pub brace_fault : {A : Type 0} (follows : Option A) (end : ℕ) (m : Meaning) (s t : Written) (q : Answer)
    → Outcome m s t (Some q) → Outcome (with_brace follows end m) s t (Some q)
brace_fault follows end m s t q o = grind (arith, fault_first)

-- ---- an argument that begins at a, after a brace at p

module _ (a : At) (p : ℕ) where
  abbrev Here : Node
  Here = token_node nodes p argument a

  module _ {X : Type 0} (shows : X → Trait → Spec → Shown) (e : Environment X) where
    -- one that is broken
    pub broken_writes : (s : Written) (f : Fault) → argument_at a ≡ Err f
        → Outcome (unlisted_means shows e Here) s s (Some (fault f))
    unfolding argument_from
    broken_writes s f h = grind (arith, ended)

  module _ (x : Argument) (q : At) (h : argument_at a ≡ Ok (x, q)) where
    abbrev Piece : Option At → Node
    Piece o = piece_node nodes p (argument_step a.place a x q o).rest.place
        (argument_step a.place a x q o).piece.kind

    here_is : Here ≡ Piece (strip close_brace q)
    unfolding argument_from
    here_is = rw h refl

    -- one that is a value
    module _ (t : Trait) (value : x.kind ≡ of_value t) where
      -- what follows it, if it is closed
      pub value_reported : (rest : At) → strip close_brace q ≡ Some rest
          → (asks_list Here ≡ false) × (rest ≡ (argument_from a.place a).rest)
      unfolding argument_from
      value_reported rest d = grind (arith, here_is)

      module _ {X : Type 0} (shows : X → Trait → Spec → Shown) (e : Environment X) where
        -- it means its value, and then the missing brace
        pub value_means_so : unlisted_means shows e Here
            ≡ with_brace (strip close_brace q) q.place (argument_means shows e a.place x q.place)
        value_means_so = grind (arith, here_is)

    -- one that is a list
    module _ (l : ListRequest) (list : x.kind ≡ of_list l) where
      asks_for_list : asks_list Here ≡ true
      asks_for_list = grind (arith, here_is)

      -- nothing is written for it yet
      pub list_writes : {X : Type 0} (shows : X → Trait → Spec → Shown) (e : Environment X) (s : Written)
          → Outcome (unlisted_means shows e Here) s s None
      list_writes shows e s = grind (arith, asks_for_list, nothing_done)

      abbrev Asked : ListArgument
      Asked = record {
        start = a.place;
        name = x.name;
        range = l.range;
        spec = x.spec;
        end = q.place;
        item = group_branch nodes l.item;
        join = group_branch nodes l.join;
      }

      -- it is a list, and the first
      pub list_reported : (asks_list Here ≡ true) × FirstAsks Asked (option_map text_forest (strip close_brace q))
          (nodes_and Here (text_forest (argument_from a.place a).rest))
      unfolding argument_from
      list_reported = grind (arith, asks_for_list)

-- ---- a text by its first token

-- there is no first token only at the end of the text
token_none : (a : At) → first_token a ≡ None → a.text ≡ []
unfolding first_token
token_none a h = grind arith

module _ (a : At) where
  -- without a token, no piece is left
  pub text_none : first_token a ≡ None → text_forest a ≡ no_nodes
  text_none h = grind (arith, nodes_none)

  -- without characters there are none
  pub text_empty : a.text ≡ [] → text_forest a ≡ no_nodes
  unfolding first_token
  text_empty h = text_none (rw h refl)

  module _ (x : Token × At) (h : first_token a ≡ Some x) where
    -- the first piece, and then those of the text after it
    pub text_next : text_forest a
        ≡ nodes_and (token_node nodes a.place x.0 x.1) (text_forest (past_token x.0 x.1))
    text_next = grind (arith, nodes_first)

    pub next_holds : first_holds (text_forest a) ≡ true
    next_holds = grind (arith, text_next)

  -- with characters there is one, and it holds something
  pub text_holds : a.text ≢ [] → first_holds (text_forest a) ≡ true
  text_holds some = by_first (first_token a) refl
    where
      by_first : (o : Option (Token × At)) → first_token a ≡ o → first_holds (text_forest a) ≡ true
      by_first None h = absurd (some (token_none a h))
      by_first (Some x) h = next_holds x h
