-- Pieces split into those before the first list and those from it on: what they mean, how many are
-- gone through, and how many there are.
use Rattle.std.proofs.Common.{rules, ◌≡◌, ◌∙◌, refl, sym, arith, ℕ, suc, ◌+◌, ◌<◌, ◌≤◌, Option}
use Rattle.std.proofs.Common.{None, Some, if◌then◌else◌}
use Rattle.interpolator_render.specs.{Writers.Written, declared.view.Trait.Trait}
use Rattle.interpolator_render.specs.{declared.view.Spec.Spec, Views.Shown}
use Rattle.interpolator_syntax.specs.Nodes.{Node, node, Branch, no_branch, branch, Forest, no_nodes}
use Rattle.interpolator_syntax.specs.Nodes.{nodes_and, argument_content, target_list}
use Rattle.interpolator_syntax.specs.{Faults.Answer, declared.piece_kind.PieceKind.PieceKind}
use Rattle.interpolator_eval.specs.Meaning.Meanings.{Meaning, chain, node_means, forest_means}
use Rattle.interpolator_eval.specs.Meaning.Sinks.{SameEnd, Writes, taken_by}
use Rattle.interpolator_eval.specs.Meaning.Sources.{ListArgument, FirstAsks, before_list, from_list}
use Rattle.interpolator_eval.specs.Meaning.Sources.{has_brace, list_with_brace, list_work}
use Rattle.interpolator_eval.specs.Meaning.Work.{or_stop, node_work, forest_work}
use Rattle.interpolator_eval.specs.{Meaning.Environments.Environment, Meaning.Outcomes.Outcome}
use Rattle.interpolator_eval.specs.declared.evaluate.sink.Sink.{Sink}
use Rattle.interpolator_eval.proofs.MeaningLemmas.MeaningLemmas.{joined_assoc, joined_none}
use Rattle.interpolator_eval.proofs.MeaningLemmas.SinkLemmas.{and_then, fault_first, nothing_done}
use Rattle.interpolator_eval.proofs.MeaningLemmas.SinkLemmas.{same_end, same_then, goes_on}
use Rattle.interpolator_eval.proofs.MeaningLemmas.OutcomeLemmas.{no_fault}

-- ---- how many there are

abbrev mutual
  pub node_size : Node → ℕ
  node_size (node place end kind held item join) = suc (branch_size item + branch_size join)

  pub branch_size : Branch → ℕ
  branch_size no_branch = 0
  branch_size (branch xs) = suc (forest_size xs)

  pub forest_size : Forest → ℕ
  forest_size no_nodes = 0
  forest_size (nodes_and x xs) = suc (node_size x + forest_size xs)

-- those of the groups of a list
abbrev pub asked_size : ListArgument → ℕ
asked_size x = branch_size x.item + branch_size x.join

from_smaller : (xs : Forest) → forest_size (from_list xs) ≤ forest_size xs
from_smaller no_nodes = omega arith
from_smaller (nodes_and x xs) = grind (arith, from_smaller xs)

brace_rest : (kind : PieceKind) (r rest : Forest)
    → (if has_brace kind then Some r else None) ≡ Some rest → r ≡ rest
brace_rest kind r rest is = grind arith

-- the groups of the first list, and the pieces after it
pub first_smaller : (x : ListArgument) (after : Option Forest) (xs : Forest)
    → FirstAsks x after (from_list xs) → asked_size x < forest_size xs
first_smaller x after xs h = grind (arith, from_smaller xs)

pub rest_smaller : (x : ListArgument) (after : Option Forest) (rest xs : Forest)
    → FirstAsks x after (from_list xs) → after ≡ Some rest → forest_size rest < forest_size xs
rest_smaller x after rest xs h is =
    grind (arith, from_smaller xs, brace_rest h.kind h.rest rest (sym h.closing ∙ is))

module _ {X : Type 0} (shows : X → Trait → Spec → Shown) (e : Environment X) where
  abbrev All : Forest → Meaning
  All xs = forest_means shows e xs

  abbrev Visited : Forest → ℕ
  Visited xs = (forest_work shows e xs).pieces

  -- ---- what they mean

  -- those before the first list, and then those from it on
  means_split : (xs : Forest) → All xs ≡ chain (All (before_list xs)) (All (from_list xs))
  means_split no_nodes = refl
  means_split (nodes_and x xs) = grind (arith, joined_none, joined_assoc, means_split xs)

  -- ---- how many are gone through

  -- those before the first list
  before_stops : (xs : Forest) → Visited (before_list xs) ≤ Visited xs
  before_stops no_nodes = omega arith
  before_stops (nodes_and x xs) = grind (arith, before_stops xs)

  -- and, if they are done, those from it on
  before_goes : (xs : Forest) → (All (before_list xs)).fault ≡ None
      → Visited (before_list xs) + Visited (from_list xs) ≡ Visited xs
  before_goes no_nodes none = refl
  before_goes (nodes_and x xs) none = grind (arith, before_goes xs)

  -- ---- the first list

  module _ (x : ListArgument) (after : Option Forest) (xs : Forest)
      (h : FirstAsks x after (from_list xs)) where
    abbrev First : Node
    First = node h.place h.last h.kind
        (Some (argument_content x.start x.name x.spec (target_list x.range) x.end)) x.item x.join

    argument_is : node_means shows e First ≡ list_with_brace shows e x after
    argument_is = grind arith

    list_split : All xs
        ≡ chain (All (before_list xs)) (chain (list_with_brace shows e x after) (All h.rest))
    list_split = grind (arith, means_split, argument_is)

    from_visited : Visited (from_list xs)
        ≡ (or_stop (list_with_brace shows e x after).fault (node_work shows e First)
        (forest_work shows e h.rest)).pieces
    from_visited = grind (arith, argument_is)

  -- ---- what is written before the first list, and then from it on

  module _ {W : Type 0} (written : W → Written) (xs : Forest) (s t : Sink W) where
    -- what comes before it ends the run
    pub before_fails : (q : Answer) → Writes written (All (before_list xs)) s t (Some q)
        → Writes written (All xs) s t (Some q)
    before_fails q o = record {
      outcome = rw (means_split xs) (fault_first _ _ _ _ q o.outcome);
      same = o.same;
    }

    -- what comes before it is done, and then the rest is written
    pub from_on : (u : Sink W) (answer : Option Answer)
        → Writes written (All (before_list xs)) s t None
        → Writes written (All (from_list xs)) t u answer → Writes written (All xs) s u answer
    from_on u answer o k = record {
      outcome = rw (means_split xs) (and_then _ _ _ _ _ answer o.outcome k.outcome);
      same = same_then s t u o.same k.same;
    }

    -- there is no list
    pub before_all : from_list xs ≡ no_nodes → Writes written (All (before_list xs)) s t None
        → Writes written (All xs) s t None
    before_all none o =
        from_on t None o (rw none (record { outcome = nothing_done _; same = same_end t }))

  -- ---- pieces list by list

  module _ {W : Type 0} (written : W → Written) where
    -- what was written before the pieces `rest` and any outcome of these are an outcome of all; and
    -- those gone through so far and the rest are all
    pub record ListsPassed (all rest : Forest) (old s : Sink W) (n count : ℕ) : Type 0 where
      pub so_far : (new : Written) (answer : Option Answer)
          → Outcome (All rest) (taken_by written s) new answer
          → Outcome (All all) (taken_by written old) new answer
      pub same : SameEnd old s
      pub visited : count + Visited rest ≡ n + Visited all

module _ {X : Type 0} {shows : X → Trait → Spec → Shown} {e : Environment X} {W : Type 0}
    {written : W → Written} {all xs : Forest} {old s : Sink W} {n count : ℕ}
    (p : ListsPassed shows e written all xs old s n count) {t : Sink W} {mid : ℕ} where
  -- what comes before the first list ends the run
  pub before_ends : {q : Answer} → Writes written (All shows e (before_list xs)) s t (Some q)
      → mid ≤ count + Visited shows e (before_list xs)
      → Writes written (All shows e all) old t (Some q) × (mid ≤ n + Visited shows e all)
  before_ends o most = (
    goes_on _ _ _ _ _ _ _ p.so_far p.same (search (rules, means_split shows e xs, fault_first)),
    omega (arith, p.visited, before_stops shows e xs),
  )

  module _ (before : Writes written (All shows e (before_list xs)) s t None) where
    -- nothing comes after it
    pub all_done : from_list xs ≡ no_nodes → mid ≡ count + Visited shows e (before_list xs)
        → Writes written (All shows e all) old t None × (mid ≡ n + Visited shows e all)
    all_done none exact = (
      goes_on _ _ _ _ _ _ _ p.so_far p.same
          (search (rules, means_split shows e xs, none, and_then, nothing_done)),
      grind (arith, p.visited, before_goes shows e xs (no_fault _ _ _ before.outcome)),
    )

    module _ {x : ListArgument} {after : Option Forest} (h : FirstAsks x after (from_list xs))
        (exact : mid ≡ count + (Visited shows e (before_list xs) + 1)) {u : Sink W} {now : ℕ} where
      -- the first list ends the run
      pub list_ends : {q : Answer} → Writes written (list_with_brace shows e x after) t u (Some q)
          → now ≤ mid + (list_work shows e x).pieces
          → Writes written (All shows e all) old u (Some q) × (now ≤ n + Visited shows e all)
      list_ends o most = (
        goes_on _ _ _ _ _ _ _ p.so_far p.same
            (search (rules, list_split shows e x after xs h, and_then, fault_first, same_then)),
        grind (
          arith,
          p.visited,
          before_goes shows e xs (no_fault _ _ _ before.outcome),
          from_visited shows e x after xs h,
        ),
      )

      -- it is done, and what follows it is left
      pub list_passed : {rest : Forest} → after ≡ Some rest
          → Writes written (list_with_brace shows e x after) t u None
          → now ≡ mid + (list_work shows e x).pieces
          → ListsPassed shows e written all rest old u n now
      list_passed is o visited = record {
        so_far = λ new answer k. p.so_far new answer
            (rw (list_split shows e x after xs h, brace_rest h.kind h.rest _ (sym h.closing ∙ is))
            (and_then _ _ _ _ _ _ before.outcome (and_then _ _ _ _ _ _ o.outcome k)));
        same = same_then _ _ _ p.same (same_then _ _ _ before.same o.same);
        visited = grind (
          arith,
          p.visited,
          before_goes shows e xs (no_fault _ _ _ before.outcome),
          from_visited shows e x after xs h,
          no_fault _ _ _ o.outcome,
          brace_rest h.kind h.rest _ (sym h.closing ∙ is),
        );
      }
