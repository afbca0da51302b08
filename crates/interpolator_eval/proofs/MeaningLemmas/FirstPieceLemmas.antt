-- Pieces up to their first list: from the first piece, and from those after it.
use Rattle.std.proofs.Common.{◌≡◌, refl, arith, ℕ, ◌+◌, ◌≤◌, Bool, true, false, Option, None, Some}
use Rattle.interpolator_render.specs.{Writers.Written, declared.view.Trait.Trait}
use Rattle.interpolator_render.specs.{declared.view.Spec.Spec, Views.Shown}
use Rattle.interpolator_syntax.specs.Nodes.{Node, node, Forest, no_nodes, nodes_and, nodes}
use Rattle.interpolator_syntax.specs.Nodes.{token_node}
use Rattle.interpolator_syntax.specs.Tokens.{Token, first_token, past_token}
use Rattle.interpolator_syntax.specs.{Faults.Answer, Places.At}
use Rattle.interpolator_eval.specs.Meaning.Sources.{asks_list, before_list, first_holds, from_list}
use Rattle.interpolator_eval.specs.Meaning.Sources.{unlisted_means}
use Rattle.interpolator_eval.specs.Meaning.{ScannedLists.text_forest, Environments.Environment}
use Rattle.interpolator_eval.specs.Meaning.{Meanings.Meaning, Meanings.forest_means}
use Rattle.interpolator_eval.specs.Meaning.{Outcomes.Outcome, Work.forest_work, Work.node_work}
use Rattle.interpolator_eval.proofs.MeaningLemmas.SinkLemmas.{and_then, fault_first, nothing_done}
use Rattle.interpolator_eval.proofs.MeaningLemmas.SinkLemmas.{nothing_fails}
use Rattle.interpolator_eval.proofs.MeaningLemmas.ScanLemmas.{text_none, text_next, next_holds}

module _ (x : Node) (xs : Forest) where
  abbrev Whole : Forest
  Whole = nodes_and x xs

  -- a piece that is no list: those before the first list begin with it
  pub before_after : asks_list x ≡ false → before_list Whole ≡ nodes_and x (before_list xs)
  before_after other = rw other refl

  -- and what is left comes after it
  pub left_after : asks_list x ≡ false → from_list Whole ≡ from_list xs
  left_after other = rw other refl

  -- one that is a list: nothing comes before it
  pub before_none : asks_list x ≡ true → before_list Whole ≡ no_nodes
  before_none listed = rw listed refl

  pub left_here : asks_list x ≡ true → from_list Whole ≡ Whole
  left_here listed = rw listed refl

  module _ {X : Type 0} (shows : X → Trait → Spec → Shown) (e : Environment X) where
    abbrev Before : Forest → Meaning
    Before ys = forest_means shows e (before_list ys)

    abbrev Visited : Forest → ℕ
    Visited ys = (forest_work shows e (before_list ys)).pieces

    -- nothing is gone through before it
    pub none_visited : asks_list x ≡ true → Visited Whole ≡ 0
    none_visited listed = grind (arith, before_none)

    module _ (s t : Written) where
      -- it is done, and the rest is written
      pub piece_runs : (u : Written) (answer : Option Answer) → asks_list x ≡ false
          → Outcome (unlisted_means shows e x) s t None → Outcome (Before xs) t u answer
          → Outcome (Before Whole) s u answer
      piece_runs u answer other o k =
          rw (before_after other) (and_then _ _ _ _ u answer (rw other at o) k)

      -- it is a list: nothing is written before it
      pub list_at : asks_list x ≡ true → Outcome (unlisted_means shows e x) s t None
          → Outcome (Before Whole) s t None
      list_at listed o = grind (arith, before_none)

      -- it ends the run
      pub piece_fault : (q : Answer) → Outcome (unlisted_means shows e x) s t (Some q)
          → Outcome (Before Whole) s t (Some q)
      piece_fault q o = by_asked (asks_list x) refl
        where
          by_asked : (b : Bool) → asks_list x ≡ b → Outcome (Before Whole) s t (Some q)
          by_asked false other = rw (before_after other) (fault_first _ _ _ _ q (rw other at o))
          by_asked true listed = absurd (nothing_fails _ _ q (rw listed at o))

      module _ (one : 1 ≤ (node_work shows e x).pieces) where
        -- and is a piece itself
        pub piece_stops : (q : Answer)
            → Outcome (unlisted_means shows e x) s t (Some q) → 1 ≤ Visited Whole
        piece_stops q o = by_asked (asks_list x) refl
          where
            by_asked : (b : Bool) → asks_list x ≡ b → 1 ≤ Visited Whole
            by_asked false other = grind (arith, before_after)
            by_asked true listed = absurd (nothing_fails _ _ q (rw listed at o))

        -- it is done, and the pieces after it come to it
        pub piece_goes : asks_list x ≡ false → Outcome (unlisted_means shows e x) s t None
            → 1 + Visited xs ≡ Visited Whole
        piece_goes other o = grind (arith, before_after)

-- ---- pieces in order, one after another

module _ {X : Type 0} (shows : X → Trait → Spec → Shown) (e : Environment X) where
  abbrev Means : Forest → Meaning
  Means xs = forest_means shows e (before_list xs)

  abbrev Pieces : Forest → ℕ
  Pieces xs = (forest_work shows e (before_list xs)).pieces

  -- what holds something is at least one piece
  holds_counts : (x : Node) (xs : Forest) → first_holds (nodes_and x xs) ≡ true
      → 1 ≤ (node_work shows e x).pieces
  holds_counts (node p end kind content item join) xs h = grind arith

  -- what was written before the pieces `rest` and any outcome of these, up to the first list, are an
  -- outcome of all; the first list is the same; and those gone through so far and the rest are all
  pub record Passed (all rest : Forest) (old s : Written) (n count : ℕ) : Type 0 where
    pub so_far : (new : Written) (answer : Option Answer)
        → Outcome (Means rest) s new answer → Outcome (Means all) old new answer
    pub left : from_list all ≡ from_list rest
    pub visited : count + Pieces rest ≡ n + Pieces all

  -- no pieces are left
  pub passed_all : {all : Forest} (a : At) {old s : Written} {n count : ℕ}
      → Passed all (text_forest a) old s n count → first_token a ≡ None
      → Outcome (Means all) old s None × (from_list all ≡ no_nodes)
      × (count ≡ n + (Pieces all + 0))
  passed_all a p h = (
    p.so_far _ None (rw (text_none a h) (nothing_done _)),
    rw (p.left, text_none _ h) refl,
    grind (arith, p.visited, text_none _ h),
  )

  module _ {all rest after : Forest} {x : Node} {old s : Written} {n count now : ℕ}
      (p : Passed all rest old s n count) (one : now ≡ count + 1)
      (first : rest ≡ nodes_and x after) (holds : first_holds rest ≡ true) where
    counts : 1 ≤ (node_work shows e x).pieces
    counts = holds_counts x after (rw first at holds)

    visited_so_far : count + Pieces (nodes_and x after) ≡ n + Pieces all
    visited_so_far = rw (← first) p.visited

    -- the first piece ends the run
    pub first_stops : {t : Written} {q : Answer} → Outcome (unlisted_means shows e x) s t (Some q)
        → Outcome (Means all) old t (Some q) × (now ≤ n + (Pieces all + 0))
    first_stops o = (
      p.so_far _ _ (rw first (piece_fault x after shows e _ _ _ o)),
      omega (arith, visited_so_far, one, piece_stops x after shows e _ _ counts _ o),
    )

    -- it is a list
    pub first_list : {t : Written} → asks_list x ≡ true
        → Outcome (unlisted_means shows e x) s t None
        → Outcome (Means all) old t None × (from_list all ≡ nodes_and x after)
        × (now ≡ n + (Pieces all + 1))
    first_list listed o = (
      p.so_far _ None (rw first (list_at x after shows e _ _ listed o)),
      rw (p.left, first) (left_here x after listed),
      omega (arith, visited_so_far, one, none_visited x after shows e listed),
    )

    -- it is done
    pub first_on : {t : Written} → asks_list x ≡ false
        → Outcome (unlisted_means shows e x) s t None → Passed all after old t n now
    first_on other o = record {
      so_far = λ new answer k. p.so_far new answer
          (rw first (piece_runs x after shows e _ _ _ _ other o k));
      left = rw (p.left, first) (left_after x after other);
      visited = omega (arith, visited_so_far, one, piece_goes x after shows e _ _ counts other o);
    }

  -- the same of the piece of a token
  module _ {all : Forest} (a : At) {token : Token × At} {old s : Written} {n count now : ℕ}
      (p : Passed all (text_forest a) old s n count) (one : now ≡ count + 1)
      (is : first_token a ≡ Some token) where
    abbrev First : Node
    First = token_node nodes a.place token.0 token.1

    pub passed_stops : {t : Written} {q : Answer}
        → Outcome (unlisted_means shows e First) s t (Some q)
        → Outcome (Means all) old t (Some q) × (now ≤ n + (Pieces all + 0))
    passed_stops = first_stops p one (text_next a token is) (next_holds a token is)

    pub passed_list : {t : Written} → asks_list First ≡ true
        → Outcome (unlisted_means shows e First) s t None
        → Outcome (Means all) old t None
        × (from_list all ≡ nodes_and First (text_forest (past_token token.0 token.1)))
        × (now ≡ n + (Pieces all + 1))
    passed_list = first_list p one (text_next a token is) (next_holds a token is)

    pub passed_on : {t : Written} → asks_list First ≡ false
        → Outcome (unlisted_means shows e First) s t None
        → Passed all (text_forest (past_token token.0 token.1)) old t n now
    passed_on = first_on p one (text_next a token is) (next_holds a token is)
