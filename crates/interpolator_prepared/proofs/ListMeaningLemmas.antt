-- What the parts of item formats and of joins mean, and so what lists mean.
use Rattle.std.proofs.Common.{◌≡◌, ◌∙◌, refl, sym, ap, ℕ, List, [], ◌∷◌, ◌++◌, Option, None, Some}
use Rattle.std.specs.Prelude.{if◌then◌else◌}
use Rattle.interpolator_render.specs.{declared.view.Trait.Trait, declared.view.Spec.Spec}
use Rattle.interpolator_render.specs.Views.{Shown}
use Rattle.interpolator_syntax.specs.Nodes.{Node, node, Branch, no_branch, branch, Forest, no_nodes}
use Rattle.interpolator_syntax.specs.Nodes.{nodes_and, text_content, argument_content, target_value}
use Rattle.interpolator_syntax.specs.Nodes.{target_list}
use Rattle.interpolator_syntax.specs.{Places.Placed, Places.placed_from, Faults.parse, Faults.iter}
use Rattle.interpolator_syntax.specs.declared.range.Range.{Range}
use Rattle.interpolator_eval.specs.Slots.{Slots, items}
use Rattle.interpolator_eval.specs.Meaning.Environments.{Environment, bind, slots_under}
use Rattle.interpolator_eval.specs.Meaning.Meanings.{Meaning, text_alone, chain, fault_alone}
use Rattle.interpolator_eval.specs.Meaning.Meanings.{and_closed, forbids_list, padded_list}
use Rattle.interpolator_eval.specs.Meaning.Meanings.{items_after, items_mean, listed_means}
use Rattle.interpolator_eval.specs.Meaning.Meanings.{under_name, node_means, forest_means}
use Rattle.interpolator_eval.specs.Meaning.Meanings.{item_branch_means, join_branch_means}
use Rattle.interpolator_eval.specs.{Meaning.Choices.chosen_items, Meaning.Lists.list_under_name}
use Rattle.interpolator_eval.proofs.MeaningLemmas.MeaningLemmas.{joined_assoc, joined_none}
use Rattle.interpolator_eval.proofs.MeaningLemmas.MeaningLemmas.{nothing_last}
use Rattle.interpolator_prepared.specs.Items.{ItemPart, characters, in_item, in_join, item_parts}
use Rattle.interpolator_prepared.specs.Items.{join_parts, part_means, parts_by, parts_mean}
use Rattle.interpolator_prepared.specs.Programs.{step_means, whole_step}

module _ {X : Type 0} (shows : X → Trait → Spec → Shown) where
  module _ (e : Environment X) where
    abbrev Mean : List ItemPart → Meaning
    Mean = parts_mean shows e

    -- characters before parts are text before what these mean
    pub characters_before : (xs : Placed) (ps : List ItemPart)
        → Mean (characters xs ++ ps) ≡ chain (text_alone xs) (Mean ps)
    characters_before [] ps = sym (joined_none (Mean ps))
    characters_before (x ∷ xs) ps =
        ap (chain (text_alone (x ∷ []))) (characters_before xs ps)
        ∙ sym (joined_assoc (text_alone (x ∷ [])) (text_alone xs) (Mean ps))

    pub characters_alone : (xs : Placed) → Mean (characters xs) ≡ text_alone xs
    characters_alone [] = refl
    characters_alone (x ∷ xs) = ap (chain (text_alone (x ∷ []))) (characters_alone xs)

    parts_join : (ps qs : List ItemPart) → Mean (ps ++ qs) ≡ chain (Mean ps) (Mean qs)
    parts_join [] qs = sym (joined_none (Mean qs))
    parts_join (p ∷ ps) qs =
        ap (chain (part_means shows e p)) (parts_join ps qs)
        ∙ sym (joined_assoc (part_means shows e p) (Mean ps) (Mean qs))

    -- if the parts of each node mean what it means, those of nodes mean what these mean
    forest_parts : (parts : Node → List ItemPart)
        → ((x : Node) → Mean (parts x) ≡ node_means shows e x) → (xs : Forest)
        → Mean (parts_by parts xs) ≡ forest_means shows e xs
    forest_parts parts same no_nodes = refl
    forest_parts parts same (nodes_and x xs) =
        parts_join (parts x) (parts_by parts xs)
        ∙ ap (λ m. chain m (Mean (parts_by parts xs))) (same x)
        ∙ ap (chain (node_means shows e x)) (forest_parts parts same xs)

    in_join_means : (x : Node) → Mean (in_join x) ≡ node_means shows e x
    in_join_means (node place end kind (Some (text_content from cs)) item join) =
        characters_alone (placed_from from cs)
    in_join_means (node place end kind _ item join) = nothing_last _

    join_parts_mean : (b : Branch) → Mean (join_parts b) ≡ join_branch_means shows e b
    join_parts_mean no_branch = refl
    join_parts_mean (branch xs) = forest_parts in_join in_join_means xs

  module _ (e : Environment X) (found : Slots X) where
    in_item_means : (x : Node)
        → parts_mean shows (bind e found) (in_item x) ≡ node_means shows (bind e found) x
    in_item_means (node place end kind (Some (text_content from cs)) item join) =
        characters_alone (bind e found) (placed_from from cs)
    in_item_means (node place end kind (Some (argument_content start [] spec (target_value t) q)) item join) =
        nothing_last _
    in_item_means (node place end kind (Some (argument_content start [] spec (target_list r) q)) item join) =
        nothing_last _
    in_item_means (node place end kind (Some (argument_content start (c ∷ cs) spec target q)) item join) =
        nothing_last _
    in_item_means (node place end kind _ item join) = nothing_last _

    item_parts_mean : (b : Branch) (end : ℕ)
        → parts_mean shows (bind e found) (item_parts b end) ≡ item_branch_means shows e b end found
    item_parts_mean no_branch end = nothing_last _
    item_parts_mean (branch xs) end = forest_parts (bind e found) in_item in_item_means xs

-- ---- lists whose joins and items mean the same

module _ {X : Type 0} (join other : Meaning) (item one : Slots X → Meaning) (joins : join ≡ other)
    (same : (found : Slots X) → item found ≡ one found) where
  after_same : (xs : List (Slots X)) → items_after join item xs ≡ items_after other one xs
  after_same [] = refl
  after_same (x ∷ xs) =
      ap (λ m. chain m (chain (item x) (items_after join item xs))) joins
      ∙ ap (λ m. chain other (chain m (items_after join item xs))) (same x)
      ∙ ap (λ m. chain other (chain (one x) m)) (after_same xs)

  pub items_same : (xs : List (Slots X)) → items_mean join item xs ≡ items_mean other one xs
  items_same [] = refl
  items_same (x ∷ xs) =
      ap (λ m. chain m (items_after join item xs)) (same x) ∙ ap (chain (one x)) (after_same xs)

  module _ (e : Environment X) (name : List ℕ) (start : ℕ) (range : Option Range) (spec : Spec)
      (end : ℕ) where
    listed_same : (o : Option (List (Slots X)))
        → listed_means range spec end join item o ≡ listed_means range spec end other one o
    listed_same None = refl
    listed_same (Some ts) =
        ap (λ m. if forbids_list spec then fault_alone (parse (iter end)) else padded_list spec end m)
        (items_same (chosen_items range ts))

    under_same : (o : Option (Slots X))
        → under_name name start (λ found. listed_means range spec end join item (items found)) o
        ≡ under_name name start (λ found. listed_means range spec end other one (items found)) o
    under_same None = refl
    under_same (Some found) = listed_same (items found)

    list_same : list_under_name e name start range spec end join item
        ≡ list_under_name e name start range spec end other one
    list_same = under_same (slots_under e name)

module _ {X : Type 0} (shows : X → Trait → Spec → Shown) (e : Environment X)
    (value_at : ℕ → Option (Slots X)) where
  -- the step of a node means what the node means
  pub whole_means : (x : Node)
      → step_means shows e value_at (whole_step x) ≡ node_means shows e x
  whole_means (node place end kind (Some (argument_content start name spec (target_list r) q)) item join) =
      ap (and_closed kind q)
      (list_same (parts_mean shows e (join_parts join)) (join_branch_means shows e join)
      (λ found. parts_mean shows (bind e found) (item_parts item q)) (item_branch_means shows e item q)
      (join_parts_mean shows e join) (λ found. item_parts_mean shows e found item q)
      e name start r spec q)
  whole_means (node place end kind _ item join) = refl
