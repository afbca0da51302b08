-- Every place of a meaning lies in the text.
use Rattle.std.proofs.Common.{◌≡◌, ℕ, ◌+◌, ◌≤◌, List, [], ◌∷◌, ◌++◌, arith, Option, Some, None}
use Rattle.std.proofs.Common.{option_map}
use Rattle.std.specs.{Char.len_utf8, Prelude.⊤}
use Rattle.interpolator_render.specs.{declared.view.Trait.Trait, declared.view.Spec.Spec}
use Rattle.interpolator_render.specs.{Views.Shown, Writers.Written}
use Rattle.interpolator_syntax.specs.Places.{At, Placed, placed_at, placed_from, size}
use Rattle.interpolator_syntax.specs.Faults.{Answer, fault, PlaceWithin}
use Rattle.interpolator_syntax.specs.Nodes.{Node, node, Branch, no_branch, branch, Forest, no_nodes}
use Rattle.interpolator_syntax.specs.Nodes.{nodes_and, Content, argument_content, Target}
use Rattle.interpolator_syntax.specs.declared.{piece_kind.PieceKind.PieceKind, range.Range.Range}
use Rattle.interpolator_syntax.proofs.TreePlaceLemmas.{ContentLies, NodeLies, BranchLies}
use Rattle.interpolator_syntax.proofs.TreePlaceLemmas.{ForestLies, places_lie}
use Rattle.interpolator_eval.specs.Meaning.Environments.{Environment, bind}
use Rattle.interpolator_eval.specs.Meaning.Meanings.{Meaning, chain, padded_list, value_means}
use Rattle.interpolator_eval.specs.Meaning.Meanings.{items_after, items_mean, under_name}
use Rattle.interpolator_eval.specs.Meaning.Meanings.{listed_means, target_means, content_means}
use Rattle.interpolator_eval.specs.Meaning.Meanings.{node_means, join_branch_means}
use Rattle.interpolator_eval.specs.Meaning.Meanings.{item_branch_means, forest_means, means}
use Rattle.interpolator_eval.specs.{Slots.Slots, Meaning.Choices.chosen_items}
use Rattle.interpolator_eval.specs.Meaning.Outcomes.{Outcome}

-- ---- meanings whose places are among the first

-- each character is at one of the first n places
abbrev pub StandsWithin : ℕ → Placed → Type 0
StandsWithin n [] = ⊤
StandsWithin n (x ∷ xs) = (x.1 ≤ n) × StandsWithin n xs

pub record Within (n : ℕ) (m : Meaning) : Type 0 where
  pub stands : StandsWithin n m.text
  pub faults : PlaceWithin n (option_map fault m.fault)

stands-at : (n p : ℕ) (cs : List ℕ) → p ≤ n → StandsWithin n (placed_at p cs)
stands-at n p [] h = tt
stands-at n p (c ∷ cs) h = (h, stands-at n p cs h)

stands-append : (n : ℕ) (xs ys : Placed) → StandsWithin n xs → StandsWithin n ys
    → StandsWithin n (xs ++ ys)
stands-append n [] ys h k = k
stands-append n (x ∷ xs) ys h k = (h.0, stands-append n xs ys h.1 k)

within_joined : (n : ℕ) (m k : Meaning) → Within n m → Within n k → Within n (chain m k)
within_joined n m k h j = grind (arith, stands-append)

-- what lies in a text lies in every longer one
pub lies_in_more : (m n : ℕ) (answer : Option Answer) → m ≤ n → PlaceWithin m answer
    → PlaceWithin n answer
lies_in_more m n answer h k = grind arith

-- a list that is made whole is at the place where it is written
padded_within :
    (n : ℕ) (spec : Spec) (q : ℕ) (m : Meaning) → q ≤ n → Within n m
    → Within n (padded_list spec q m)
padded_within n spec q m h k = grind (arith, stands-at)

-- ---- a tree

placed_within : (n p : ℕ) (cs : List ℕ) → p + size cs ≤ n → StandsWithin n (placed_from p cs)
placed_within n p [] h = tt
placed_within n p (c ∷ cs) h = grind (arith, placed_within n (p + len_utf8 c) cs)

module _ (n : ℕ) {X : Type 0} (shows : X → Trait → Spec → Shown) where
  value_within : (t : Trait) (spec : Spec) (q : ℕ) (o : Option X) → q ≤ n
      → Within n (value_means shows t spec q o)
  value_within t spec q o h = grind (arith, stands-at)

  module _ (join : Meaning) (joins : Within n join) where
    module _ (item : Slots X → Meaning) (each : (x : Slots X) → Within n (item x)) where
      after_within : (xs : List (Slots X)) → Within n (items_after join item xs)
      after_within [] = record { stands = tt; faults = tt }
      after_within (x ∷ xs) =
          within_joined n _ _ joins (within_joined n _ _ (each x) (after_within xs))

      items_within : (xs : List (Slots X)) → Within n (items_mean join item xs)
      items_within [] = record { stands = tt; faults = tt }
      items_within (x ∷ xs) = within_joined n _ _ (each x) (after_within xs)

      list_within : (range : Option Range) (spec : Spec) (q : ℕ) (o : Option (List (Slots X)))
          → q ≤ n → Within n (listed_means range spec q join item o)
      list_within range spec q None h = record { stands = tt; faults = h }
      list_within range spec q (Some ts) h =
          let padded = padded_within n spec q _ h (items_within (chosen_items range ts)) in
          grind (arith, padded)

      found_within : (start : ℕ) (name : List ℕ) (target : Target) (spec : Spec) (q : ℕ)
          (o : Option (Slots X)) → start ≤ n → q ≤ n
          → Within n (under_name name start (target_means shows target spec q join item) o)
      found_within start name target spec q o s h = grind (arith, value_within, list_within)

    content_within : (e : Environment X) (kind : PieceKind) (held : Content)
        (item : ℕ → Slots X → Meaning) → ContentLies n held
        → ((q : ℕ) (x : Slots X) → q ≤ n → Within n (item q x))
        → Within n (content_means shows e kind held join item)
    content_within e kind (argument_content start name spec target q) item h each =
        grind (arith, found_within, stands-append)
    content_within e kind held item h each = grind (arith, placed_within)

  mutual
    node_within : (x : Node) (e : Environment X) → NodeLies n x → Within n (node_means shows e x)
    node_within (node place end kind None item join) e h = record { stands = tt; faults = tt }
    node_within (node place end kind (Some held) item join) e h =
        content_within _ (join_within join e h.2) e kind held _ h.0
        (λ q x l. item_within item e q x l h.1)

    join_within : (b : Branch) (e : Environment X) → BranchLies n b
        → Within n (join_branch_means shows e b)
    join_within no_branch e h = record { stands = tt; faults = tt }
    join_within (branch xs) e h = forest_within xs e h

    item_within : (b : Branch) (e : Environment X) (q : ℕ) (x : Slots X) → q ≤ n → BranchLies n b
        → Within n (item_branch_means shows e b q x)
    item_within no_branch e q x l h = grind (arith, value_within)
    item_within (branch xs) e q x l h = forest_within xs (bind e x) h

    forest_within : (xs : Forest) (e : Environment X) → ForestLies n xs
        → Within n (forest_means shows e xs)
    forest_within no_nodes e h = record { stands = tt; faults = tt }
    forest_within (nodes_and x xs) e h =
        within_joined n _ _ (node_within x e h.0) (forest_within xs e h.1)

-- ---- outcomes

stands_in : (n : ℕ) (xs : Placed) (c p : ℕ) (ys : Placed) → StandsWithin n (xs ++ ((c, p) ∷ ys))
    → p ≤ n
stands_in n [] c p ys h = h.0
stands_in n (x ∷ xs) c p ys h = stands_in n xs c p ys h.1

pub outcome_within :
    (n : ℕ) (m : Meaning) (old new : Written) (answer : Option Answer) → Within n m
    → Outcome m old new answer → PlaceWithin n answer
outcome_within n m old new answer h outcome = grind (arith, stands_in)

-- a fault that is returned lies in the text, wherever that is
pub outcome_lies_from :
    {X : Type 0} (shows : X → Trait → Spec → Shown) (e : Environment X) (p : ℕ) (cs : List ℕ)
    (n : ℕ) (old new : Written) (answer : Option Answer) → p + size cs ≡ n
    → Outcome (means shows e (record { place = p; text = cs })) old new answer
    → PlaceWithin n answer
outcome_lies_from shows e p cs n old new answer h o =
    let a : At = record { place = p; text = cs } in
    outcome_within n _ old new answer
    (forest_within n shows _ e (places_lie a n (omega (arith, h)))) o
