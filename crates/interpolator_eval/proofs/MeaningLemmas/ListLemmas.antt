-- Lists: what writing the items one after the other leaves, and how many pieces it goes through.
use Rattle.std.proofs.Common.{rules, ◌≡◌, ℕ, ◌+◌, ◌<◌, ◌≤◌, List, [], ◌∷◌, map, drop, length}
use Rattle.std.proofs.Common.{get_or, Option, arith, None, Some, refl}
use Rattle.std.proofs.lemmas.List.{drop_more, drop_all}
use Rattle.interpolator_render.specs.Writers.{Written}
use Rattle.interpolator_syntax.specs.Faults.{Answer}
use Rattle.interpolator_eval.specs.Meaning.Meanings.{Meaning, items_after, items_mean}
use Rattle.interpolator_eval.specs.Meaning.Sinks.{SameEnd, Writes, taken_by}
use Rattle.interpolator_eval.specs.Meaning.Work.{Work, work_after, items_work}
use Rattle.interpolator_eval.specs.{Meaning.Outcomes.Outcome, declared.evaluate.sink.Sink.Sink}
use Rattle.interpolator_eval.proofs.MeaningLemmas.MeaningLemmas.{nothing_last}
use Rattle.interpolator_eval.proofs.MeaningLemmas.OutcomeLemmas.{no_fault}
use Rattle.interpolator_eval.proofs.MeaningLemmas.SinkLemmas.{and_then, fault_first, goes_on}
use Rattle.interpolator_eval.proofs.MeaningLemmas.SinkLemmas.{nothing_done, same_end, same_then}

-- a list of one item means that
pub one_item :
    {X W : Type 0} (into : W → Written) (join : Meaning) (item : X → Meaning) (chosen : List X)
    (x : X) (s t : Sink W) (answer : Option Answer) → chosen ≡ x ∷ []
    → Writes into (item x) s t answer → Writes into (items_mean join item chosen) s t answer
one_item into join item chosen x s t answer split o = rw (split, nothing_last (item x)) o

module _ {F X W : Type 0} (into : W → Written) (join : Meaning) (joins : Work) (item : X → Meaning)
    (each : X → Work) (slots : F → X) where
  abbrev All : List F → Meaning
  All xs = items_mean join item (map slots xs)

  abbrev Pieces : List F → ℕ
  Pieces xs = (items_work join joins item each (map slots xs)).pieces

  -- what was written before the items `rest` and any outcome of these are an outcome of all; and
  -- those pieces that were gone through so far and those of the rest are all
  pub record ItemsPassed (all rest : List F) (old s : Sink W) (n count : ℕ) : Type 0 where
    pub so_far : (new : Written) (answer : Option Answer)
        → Outcome (items_after join item (map slots rest)) (taken_by into s) new answer
        → Outcome (All all) (taken_by into old) new answer
    pub same : SameEnd old s
    pub visited : count + (work_after join joins item each (map slots rest)).pieces ≡ n + Pieces all

  module _ (xs : List F) (x : F) (rest : List F) (s t : Sink W) (split : xs ≡ x ∷ rest) where
    -- the first item is done
    pub first_passed : (n now : ℕ) → Writes into (item (slots x)) s t None
        → now ≡ n + (each (slots x)).pieces → ItemsPassed xs (drop 0 rest) s t n now
    first_passed n now o exact = record {
      so_far = λ new answer k. rw split (and_then _ _ _ _ _ _ o.outcome k);
      same = o.same;
      visited = grind (arith, no_fault _ _ _ o.outcome);
    }

module _ {F X W : Type 0} {into : W → Written} {join : Meaning} {joins : Work} {item : X → Meaning}
    {each : X → Work} {slots : F → X} {all : List F} (xs : List F) (i : ℕ) {old s : Sink W}
    {n count : ℕ}
    (p : ItemsPassed into join joins item each slots all (drop i xs) old s n count) where
  -- no item is left
  pub items_done : length xs ≤ i → Writes into (All into join joins item each slots all) old s None
      × (count ≡ n + Pieces into join joins item each slots all)
  items_done h = (
    goes_on _ _ _ _ _ _ _ p.so_far p.same (search (rules, drop_all i xs h, nothing_done, same_end)),
    omega (arith, rw (drop_all i xs h) at p.visited),
  )

  module _ {x : F} (h : i < length xs) (is : x ≡ get_or xs i x) where
    abbrev Ends : Sink W → Answer → ℕ → Type 0
    Ends u q now = Writes into (All into join joins item each slots all) old u (Some q)
        × (now ≤ n + Pieces into join joins item each slots all)

    next_item : drop i xs ≡ x ∷ drop (i + 1) xs
    next_item = rw (drop_more xs i x h, ← is) refl

    -- the join in front of the item ends the run
    pub join_stops : {t : Sink W} {q : Answer} {now : ℕ} → Writes into join s t (Some q)
        → now ≤ count + joins.pieces → Ends t q now
    join_stops o most = (
      goes_on _ _ _ _ _ _ _ p.so_far p.same (search (rules, next_item, fault_first)),
      grind (arith, rw next_item at p.visited),
    )

    module _ {mid now : ℕ} {t u : Sink W} (j : Writes into join s t None)
        (joined : mid ≡ count + joins.pieces) where
      -- the item ends the run
      pub item_stops : {q : Answer} → Writes into (item (slots x)) t u (Some q)
          → now ≤ mid + (each (slots x)).pieces → Ends u q now
      item_stops o most = (
        goes_on _ _ _ _ _ _ _ p.so_far p.same
            (search (rules, next_item, and_then, fault_first, same_then)),
        grind (arith, rw next_item at p.visited, no_fault _ _ _ j.outcome),
      )

      -- it is done
      pub item_passed : Writes into (item (slots x)) t u None → now ≡ mid + (each (slots x)).pieces
          → ItemsPassed into join joins item each slots all (drop (i + 1) xs) old u n now
      item_passed o exact = record {
        so_far = λ new answer k. p.so_far new answer (rw next_item
            (and_then _ _ _ _ _ _ j.outcome (and_then _ _ _ _ _ _ o.outcome k)));
        same = same_then _ _ _ p.same (same_then _ _ _ j.same o.same);
        visited = grind (
          arith,
          rw next_item at p.visited,
          no_fault _ _ _ j.outcome,
          no_fault _ _ _ o.outcome,
        );
      }
