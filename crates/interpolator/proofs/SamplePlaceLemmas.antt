-- The faults that a text has against a sample lie in it.
use Rattle.std.proofs.Common.{◌≡◌, ℕ, ◌≤◌, List, [], ◌∷◌, ◌++◌, length, arith, map, Option, Some}
use Rattle.std.proofs.Common.{None}
use Rattle.std.proofs.lemmas.List.Elements.{All-cons, All-map, All-nil}
use Rattle.std.specs.{List.All, Prelude.⊤, Str.chars, Str.IsUtf8}
use Rattle.interpolator_render.specs.{Views.Shown, declared.view.Spec.Spec}
use Rattle.interpolator_render.specs.declared.view.Trait.{Trait}
use Rattle.interpolator_syntax.specs.Faults.{Fault, Answer, fault, fault_place, PlaceWithin}
use Rattle.interpolator_syntax.specs.Nodes.{Node, node, Branch, no_branch, branch, Forest, no_nodes}
use Rattle.interpolator_syntax.specs.Nodes.{nodes_and, as_forest, nodes, Content}
use Rattle.interpolator_syntax.specs.{Places.outermost, declared.piece_kind.PieceKind.PieceKind}
use Rattle.interpolator_eval.specs.Slots.{Slots}
use Rattle.interpolator_eval.specs.Meaning.Samples.{Sample, sample, bind_each}
use Rattle.interpolator_pieces.specs.NodeChecks.{fault_list, own_fault, end_fault}
use Rattle.interpolator_pieces.specs.NodeSamples.{may_be_items, asked_faults, plain_faults}
use Rattle.interpolator_pieces.specs.NodeSamples.{node_faults_in, item_faults_in, join_faults_in}
use Rattle.interpolator_pieces.specs.NodeSamples.{forest_faults_in, faults_over}
use Rattle.interpolator_pieces.specs.Collecting.{AnswersFirst}
use Rattle.interpolator_syntax.proofs.CharacterLemmas.{size-chars}
use Rattle.interpolator_syntax.proofs.TreePlaceLemmas.{ContentLies, NodeLies, BranchLies}
use Rattle.interpolator_syntax.proofs.TreePlaceLemmas.{ForestLies, places_lie}

module _ (n : ℕ) where
  abbrev AllWithin : List Fault → Type 0
  AllWithin [] = ⊤
  AllWithin (f ∷ fs) = (fault_place f ≤ n) × AllWithin fs

  within_both : (xs ys : List Fault) → AllWithin xs → AllWithin ys → AllWithin (xs ++ ys)
  within_both [] ys h k = k
  within_both (x ∷ xs) ys h k = (h.0, within_both xs ys h.1 k)

  -- the faults that a text has by itself have such places
  by_itself : (kind : PieceKind) (held : Content) → ContentLies n held
      → AllWithin (fault_list (own_fault held)) × AllWithin (fault_list (end_fault kind held))
  by_itself kind held h = grind arith

  module _ {X : Type 0} (shows : X → Trait → Spec → Shown) where
    asked_within : (s : Sample X) (held : Content) → ContentLies n held
        → AllWithin (asked_faults shows s held)
    asked_within s held h = grind arith

    plain_within : (held : Content) (ts : List (Slots X)) → ContentLies n held
        → AllWithin (plain_faults shows held ts)
    plain_within held ts h = grind arith

    mutual
      node_within : (x : Node) (s : Sample X) → NodeLies n x → AllWithin (node_faults_in shows s x)
      node_within (node place end kind None item join) s h = tt
      node_within (node place end kind (Some held) item join) s h =
          let own = by_itself kind held h.0 in
          within_both _ _ (asked_within s held h.0)
          (within_both _ _ own.0 (within_both _ _ (item_within item s held h.0 h.1)
          (within_both _ _ (join_within join s h.2) own.1)))

      item_within : (b : Branch) (s : Sample X) (held : Content) → ContentLies n held → BranchLies n b
          → AllWithin (item_faults_in shows s held b)
      item_within no_branch s held h l = plain_within held (may_be_items s held) h
      item_within (branch xs) s held h l = forest_within xs (bind_each s (may_be_items s held)) l

      join_within : (b : Branch) (s : Sample X) → BranchLies n b
          → AllWithin (join_faults_in shows s b)
      join_within no_branch s h = tt
      join_within (branch xs) s h = forest_within xs s h

      forest_within : (xs : Forest) (s : Sample X) → ForestLies n xs
          → AllWithin (forest_faults_in shows s xs)
      forest_within no_nodes s h = tt
      forest_within (nodes_and x xs) s h =
          within_both _ _ (node_within x s h.0) (forest_within xs s h.1)

-- so each of them
each_within : (n : ℕ) (fs : List Fault) → AllWithin n fs → All (λ f. fault_place f ≤ n) fs
each_within n [] h = All-nil (λ f. fault_place f ≤ n)
each_within n (x ∷ fs) h = All-cons (λ f. fault_place f ≤ n) x fs h.0 (each_within n fs h.1)

-- they lie in the text
module _ {X : Type 0} (shows : X → Trait → Spec → Shown) (finds : List ℕ → Option (Slots X))
    (bs : List ℕ) (utf8 : IsUtf8 bs) where
  abbrev Faults : List Fault
  Faults = faults_over shows finds (outermost (chars bs))

  all_within : AllWithin (length bs) Faults
  all_within =
      let a = outermost (chars bs) in
      forest_within (length bs) shows (as_forest (nodes a)) (sample finds)
      (places_lie a (length bs) (omega (arith, size-chars bs utf8)))

  pub all_lie_over : All (λ f. fault_place f ≤ length bs) Faults
  all_lie_over = grind (arith, each_within, all_within)

  -- and are told so
  pub reported_lie_over : (answers : List Answer) → answers ≡ map fault Faults
      → All (λ answer. PlaceWithin (length bs) (Some answer)) answers
  reported_lie_over answers is =
      rw is (All-map (λ answer. PlaceWithin (length bs) (Some answer)) fault Faults all_lie_over)

-- the first of them lies in the text
pub first_lies_over : {X : Type 0} (shows : X → Trait → Spec → Shown)
    (finds : List ℕ → Option (Slots X)) (bs : List ℕ) (r : Option Answer) → IsUtf8 bs
    → AnswersFirst (faults_over shows finds (outermost (chars bs))) r → PlaceWithin (length bs) r
first_lies_over shows finds bs r utf8 reported = grind (arith, all_within)
