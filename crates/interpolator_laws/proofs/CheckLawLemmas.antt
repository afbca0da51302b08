-- The faults that a text has by itself: a meaning has no other `Parse` or `UnsupportedOption`, and
-- they are those of the pieces. And the name of a missing value is one that the text uses.
use Rattle.std.proofs.Common.{◌≡◌, refl, sym, ap, subst, arith, ℕ, false, List, [], ◌∷◌, inl, inr}
use Rattle.std.proofs.Common.{Option, Some, None, Contains}
use Rattle.std.proofs.lemmas.List.Elements.{Contains-append_left, Contains-append_right}
use Rattle.std.proofs.lemmas.List.Elements.{Contains-append_cases}
use Rattle.interpolator_render.specs.{Views.Shown, declared.view.Spec.Spec}
use Rattle.interpolator_render.specs.declared.view.Trait.{Trait}
use Rattle.interpolator_syntax.specs.Nodes.{Node, node, Branch, no_branch, branch, Forest, no_nodes}
use Rattle.interpolator_syntax.specs.Nodes.{nodes_and, as_forest, nodes}
use Rattle.interpolator_syntax.specs.{Places.At, Faults.Fault, Faults.missing_value}
use Rattle.interpolator_eval.specs.Meaning.Environments.{Environment, environment}
use Rattle.interpolator_eval.specs.{Slots.Slots, Meaning.AskedNames.asked_names}
use Rattle.interpolator_eval.specs.Meaning.Meanings.{means}
use Rattle.interpolator_pieces.specs.NodeChecks.{fault_list, first_fault, own_fault, end_fault}
use Rattle.interpolator_pieces.specs.NodeChecks.{node_faults, branch_faults, forest_faults}
use Rattle.interpolator_pieces.specs.NodeChecks.{text_faults, IsOfText, NodeHas, BranchHas}
use Rattle.interpolator_pieces.specs.NodeChecks.{ForestHas, FirstFaulty}
use Rattle.interpolator_pieces.proofs.CheckPlaceLemmas.{faults_of_text}
use Rattle.interpolator_laws.proofs.FaultLemmas.{forest_cause, in_one, one_in, none_in, in_first}
use Rattle.interpolator_laws.proofs.FaultLemmas.{in_second, in_third, in_fourth}

-- ---- the faults of a meaning

module _ {X : Type 0} (shows : X → Trait → Spec → Shown) where
  -- a fault of the text is among those that it has by itself
  pub fault_among : (e : Environment X) (a : At) (f : Fault) → (means shows e a).fault ≡ Some f
      → IsOfText f → Contains (text_faults a) f
  fault_among e a f h t =
      elim (forest_cause f (λ r q is. subst IsOfText (sym is) t) (λ q is. subst IsOfText (sym is) t)
      shows (as_forest (nodes a)) false e tt h) [
        | inl k ↦ k
        | inr k ↦ absurd (subst IsOfText (sym k.2) t)
      ]

  pub no_own_fault : (e : Environment X) (a : At) → first_fault (text_faults a) ≡ None
      → (f : Fault) → (means shows e a).fault ≡ Some f → ¬ (IsOfText f)
  no_own_fault e a none f h t = none_in (text_faults a) f none (fault_among e a f h t)

  -- the name of a missing value is one that the text uses, and the context has nothing under it
  pub value_missed : (finds : List ℕ → Option (Slots X)) (a : At) (name : List ℕ) (place : ℕ)
      → (means shows (environment finds) a).fault ≡ Some (missing_value name place)
      → Contains (asked_names a) name × (finds name ≡ None)
  value_missed finds a name place h =
      elim (forest_cause (missing_value name place) (λ r q is. absurd (cc)) (λ q is. absurd (cc)) shows
      (as_forest (nodes a)) false (environment finds) tt h) [
        | inl k ↦ absurd (faults_of_text a (missing_value name place) k)
        | inr k ↦ let same : k.0 ≡ name = cc in
            subst (λ n. Contains (asked_names a) n × (finds n ≡ None)) same (k.3, k.4)
      ]

-- ---- the faults of pieces

module _ (f : Fault) where
  mutual
    node_has : (x : Node) → Contains (node_faults x) f → NodeHas f x
    node_has (node place end kind None item join) h = absurd (omega (arith, h.1))
    node_has (node place end kind (Some held) item join) h =
        let last = fault_list (end_fault kind held) in
        elim (Contains-append_cases (fault_list (own_fault held)) _ f h) [
          | inl k ↦ inl (in_one (own_fault held) f k)
          | inr k ↦ elim (Contains-append_cases (branch_faults item) _ f k) [
            | inl k ↦ inr (inl (branch_has item k))
            | inr k ↦ elim (Contains-append_cases (branch_faults join) last f k) [
              | inl k ↦ inr (inr (inl (branch_has join k)))
              | inr k ↦ inr (inr (inr (in_one (end_fault kind held) f k)))
            ]
          ]
        ]

    branch_has : (b : Branch) → Contains (branch_faults b) f → BranchHas f b
    branch_has no_branch h = absurd (omega (arith, h.1))
    branch_has (branch xs) h = forest_has xs h

    forest_has : (xs : Forest) → Contains (forest_faults xs) f → ForestHas f xs
    forest_has no_nodes h = absurd (omega (arith, h.1))
    forest_has (nodes_and x xs) h =
        elim (Contains-append_cases (node_faults x) (forest_faults xs) f h) [
          | inl k ↦ inl (node_has x k)
          | inr k ↦ inr (forest_has xs k)
        ]

  mutual
    has_node : (x : Node) → NodeHas f x → Contains (node_faults x) f
    has_node (node place end kind None item join) h = absurd h
    has_node (node place end kind (Some held) item join) h =
        let own = fault_list (own_fault held) in
        let last = fault_list (end_fault kind held) in
        let items = branch_faults item in
        let joins = branch_faults join in
        elim h [
          | inl k ↦ in_first own items joins last f (one_in (own_fault held) f k)
          | inr k ↦ elim k [
            | inl k ↦ in_second own items joins last f (has_branch item k)
            | inr k ↦ elim k [
              | inl k ↦ in_third own items joins last f (has_branch join k)
              | inr k ↦ in_fourth own items joins last f (one_in (end_fault kind held) f k)
            ]
          ]
        ]

    has_branch : (b : Branch) → BranchHas f b → Contains (branch_faults b) f
    has_branch no_branch h = absurd h
    has_branch (branch xs) h = has_forest xs h

    has_forest : (xs : Forest) → ForestHas f xs → Contains (forest_faults xs) f
    has_forest no_nodes h = absurd h
    has_forest (nodes_and x xs) h = elim h [
      | inl k ↦ Contains-append_left (node_faults x) (forest_faults xs) f (has_node x k)
      | inr k ↦ Contains-append_right (node_faults x) (forest_faults xs) f (has_forest xs k)
    ]

-- the faults of a text are those of its pieces
pub text_has : (a : At) (f : Fault)
    → (Contains (text_faults a) f → ForestHas f (as_forest (nodes a)))
    × (ForestHas f (as_forest (nodes a)) → Contains (text_faults a) f)
text_has a f = (forest_has f (as_forest (nodes a)), has_forest f (as_forest (nodes a)))

-- it has none if its pieces have none
pub none_has : (a : At)
    → (first_fault (text_faults a) ≡ None → (f : Fault) → ¬ (ForestHas f (as_forest (nodes a))))
    × (((f : Fault) → ¬ (ForestHas f (as_forest (nodes a)))) → first_fault (text_faults a) ≡ None)
none_has a = (
  λ none f h. none_in (text_faults a) f none ((text_has a f).1 h),
  λ h. by_first (text_faults a) (λ f k. h f ((text_has a f).0 k)),
)
  where
    by_first : (xs : List Fault) → ((f : Fault) → ¬ (Contains xs f)) → first_fault xs ≡ None
    by_first [] h = refl
    by_first (x ∷ xs) h = absurd (h x (0, omega arith, refl))

-- the first piece that has a fault
first_of : (f : Fault) (xs : List Node) → first_fault (forest_faults (as_forest xs)) ≡ Some f
    → FirstFaulty f xs
first_of f [] h = absurd (cc)
first_of f (x ∷ xs) h = by_faults (first_of f xs) (node_faults x) refl
  where
    by_faults : (first_fault (forest_faults (as_forest xs)) ≡ Some f → FirstFaulty f xs)
        → (fs : List Fault) → node_faults x ≡ fs → FirstFaulty f (x ∷ xs)
    by_faults rest [] e = let k = rest (rw e at h) in record {
      front = x ∷ k.front;
      piece = k.piece;
      back = k.back;
      split = ap (λ ys. x ∷ ys) k.split;
      none_before = rw (e) k.none_before;
      reported = k.reported;
    }
    by_faults rest (g ∷ gs) e = record {
      front = [];
      piece = x;
      back = xs;
      split = refl;
      none_before = refl;
      reported = rw e (rw e at h);
    }

pub first_faulty : (a : At) (f : Fault) → first_fault (text_faults a) ≡ Some f
    → FirstFaulty f (nodes a)
first_faulty a f = first_of f (nodes a)
