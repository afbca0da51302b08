-- The faults that a format has by itself are among those that it has with a sample.
use Rattle.std.proofs.Common.{◌≡◌, ◌∙◌, refl, ap, ℕ, suc, true, List, [], ◌∷◌, ◌++◌, Option, None}
use Rattle.std.proofs.Common.{Some, arith, map}
use Rattle.std.proofs.lemmas.List.Elements.{filter-append}
use Rattle.std.specs.{List.filter, Prelude.Contains}
use Rattle.interpolator.specs.Template.NodeChecks.{IsOfText, branch_faults, end_fault, fault_list}
use Rattle.interpolator.specs.Template.NodeChecks.{forest_faults, node_faults, own_fault}
use Rattle.interpolator.specs.Template.NodeChecks.{text_faults}
use Rattle.interpolator.specs.Template.NodeSamples.{asked_faults, faults_over, forest_faults_in}
use Rattle.interpolator.specs.Template.NodeSamples.{item_faults_in, join_faults_in, may_be_items}
use Rattle.interpolator.specs.Template.NodeSamples.{node_faults_in, plain_faults}
use Rattle.interpolator.specs.Meaning.Samples.{Sample, bind_each, sample}
use Rattle.interpolator.specs.{Places.At, Faults.Fault, Faults.fault, Slots.Slots, Views.Shown}
use Rattle.interpolator.specs.{declared.Spec.Spec, declared.Trait.Trait}
use Rattle.interpolator_syntax.specs.Nodes.{Branch, Content, Forest, Node, as_forest, branch}
use Rattle.interpolator_syntax.specs.Nodes.{no_branch, no_nodes, node, nodes, nodes_and}
use Rattle.catalogue.specs.Examples.{is_own, is_own_reply}
use Rattle.catalogue.proofs.FirstLemmas.{filter_mapped}

abbrev own : List Fault → List Fault
own fs = filter is_own fs

module _ {X : Type 0} (shows : X → Trait → Spec → Shown) where
  -- those that a value has under its name are no such faults
  none_of_asked : (s : Sample X) (held : Content) → own (asked_faults shows s held) ≡ []
  none_of_asked s held = grind arith

  none_of_plain : (held : Content) (ts : List (Slots X)) → own (plain_faults shows held ts) ≡ []
  none_of_plain held ts = grind arith

  -- those of a piece, part by part
  own_parts : (asked mine item other join another end : List Fault) → own asked ≡ []
      → own item ≡ own other → own join ≡ own another
      → own (asked ++ (mine ++ (item ++ (join ++ end)))) ≡ own (mine ++ (other ++ (another ++ end)))
  own_parts asked mine item other join another end a i j = grind (arith, filter-append)

  mutual
    own_of_node : (s : Sample X) (x : Node)
        → own (node_faults_in shows s x) ≡ own (node_faults x)
    own_of_node s (node place end kind None item join) = refl
    own_of_node s (node place end kind (Some held) item join) =
        own_parts (asked_faults shows s held) (fault_list (own_fault held))
        (item_faults_in shows s held item) (branch_faults item) (join_faults_in shows s join)
        (branch_faults join) (fault_list (end_fault kind held))
        (none_of_asked s held) (own_of_item s held item) (own_of_join s join)

    own_of_item : (s : Sample X) (held : Content) (item : Branch)
        → own (item_faults_in shows s held item) ≡ own (branch_faults item)
    own_of_item s held no_branch = none_of_plain held (may_be_items s held)
    own_of_item s held (branch xs) = own_of_forest (bind_each s (may_be_items s held)) xs

    own_of_join : (s : Sample X) (join : Branch)
        → own (join_faults_in shows s join) ≡ own (branch_faults join)
    own_of_join s no_branch = refl
    own_of_join s (branch xs) = own_of_forest s xs

    own_of_forest : (s : Sample X) (xs : Forest)
        → own (forest_faults_in shows s xs) ≡ own (forest_faults xs)
    own_of_forest s no_nodes = refl
    own_of_forest s (nodes_and x xs) =
        grind (arith, filter-append, own_of_node s x, own_of_forest s xs)

-- a fault of a text is one that it has by itself
of_text_own : (f : Fault) → IsOfText f → is_own f ≡ true
of_text_own f h = grind arith

all_own : (fs : List Fault) → ((f : Fault) → Contains fs f → IsOfText f) → own fs ≡ fs
all_own [] h = refl
all_own (f ∷ fs) h = rw (of_text_own f (h f (0, omega arith, refl))) (ap (λ gs. f ∷ gs)
    (all_own fs (λ g has. h g (suc has.0, omega (arith, has.1), has.2))))

-- those that a format has by itself, of all that it has with a sample
pub own_faults : {X : Type 0} (shows : X → Trait → Spec → Shown)
    (finds : List ℕ → Option (Slots X)) (a : At)
    → ((f : Fault) → Contains (text_faults a) f → IsOfText f)
    → filter is_own_reply (map fault (faults_over shows finds a)) ≡ map fault (text_faults a)
own_faults shows finds a of_text =
    filter_mapped is_own_reply fault (faults_over shows finds a)
    ∙ ap (map fault) (own_of_forest shows (sample finds) (as_forest (nodes a))
    ∙ all_own (text_faults a) of_text)
