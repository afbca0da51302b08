-- The program of nodes means what they mean, with a row that reaches each name.
use Rattle.std.proofs.Common.{◌≡◌, ◌∙◌, refl, sym, ap, arith, ℕ, ◌+◌, ◌<◌, Bool, List, [], ◌∷◌}
use Rattle.std.proofs.Common.{length, Option, None, Some, IsSome}
use Rattle.std.specs.{Option.option_and_then, Str.bytes_eq, Str.encode_utf8_all}
use Rattle.interpolator_render.specs.{declared.view.Trait.Trait, declared.view.Spec.Spec}
use Rattle.interpolator_render.specs.Views.{Shown}
use Rattle.interpolator_syntax.specs.Places.{Placed, placed_from}
use Rattle.interpolator_syntax.specs.Nodes.{Node, node, Branch, Content, text_content}
use Rattle.interpolator_syntax.specs.Nodes.{argument_content, fault_content, target_value}
use Rattle.interpolator_syntax.specs.Nodes.{target_list, as_forest}
use Rattle.interpolator_syntax.specs.declared.piece_kind.PieceKind.{PieceKind}
use Rattle.interpolator_syntax.specs.declared.piece_kind.PieceKind.TheVariants as kinds
use Rattle.interpolator_eval.specs.Slots.{Slots}
use Rattle.interpolator_eval.specs.Meaning.Environments.{Environment, environment}
use Rattle.interpolator_eval.specs.Meaning.Meanings.{Meaning, text_alone, chain, under_name}
use Rattle.interpolator_eval.proofs.MeaningLemmas.MeaningLemmas.{joined_assoc}
use Rattle.interpolator_eval.specs.Meaning.Meanings.{target_means, node_means, forest_means}
use Rattle.interpolator_eval.specs.Meaning.Meanings.{join_branch_means, item_branch_means}
use Rattle.interpolator_prepared.specs.Programs.{Instruction, text_step, text_before, node_before}
use Rattle.interpolator_prepared.specs.Programs.{program, content_position, node_position, step_at}
use Rattle.interpolator_prepared.specs.Programs.{argument_step, position_means, step_means}
use Rattle.interpolator_prepared.specs.Programs.{steps_mean}
use Rattle.interpolator_prepared.proofs.ListMeaningLemmas.{whole_means}
use Rattle.interpolator_prepared.specs.Rows.{later_or_first, last_position, found_by_row}

-- ---- positions

later_below :
    (o : Option ℕ) (b : Bool) (n k : ℕ) → ((j : ℕ) → o ≡ Some j → j < n)
    → later_or_first o b ≡ Some k → k < n + 1
later_below o b n k h e = grind (arith, h, e)

-- the position of a name is one of theirs
pub position_below : (names : List (List ℕ)) (name : List ℕ) (k : ℕ)
    → last_position names name ≡ Some k → k < length names
position_below [] name k e = absurd (cc)
position_below (own ∷ names) name k e =
    omega (
      arith,
      later_below (last_position names name) (bytes_eq name own) (length names) k
          (position_below names name) e,
    )

-- ---- steps in order

module _ {X : Type 0} (shows : X → Trait → Spec → Shown) (e : Environment X)
    (value_at : ℕ → Option (Slots X)) where
  abbrev Mean : List Instruction → Meaning
  Mean = steps_mean shows e value_at

  abbrev One : Instruction → Meaning
  One = step_means shows e value_at

  text_before_means : (xs : Placed) (steps : List Instruction)
      → Mean (text_before xs steps) ≡ chain (text_alone xs) (Mean steps)
  text_before_means xs [] = refl
  text_before_means xs (text_step ys ∷ steps) = joined_assoc (text_alone xs) (text_alone ys) (Mean steps)
  text_before_means xs (_ ∷ steps) = refl

-- ---- nodes

module _ {X : Type 0} (shows : X → Trait → Spec → Shown) (names : List (List ℕ))
    (value_at : ℕ → Option (Slots X))
    (reached : (k : ℕ) → k < length names → IsSome (value_at k)) where
  abbrev E : Environment X
  E = environment (found_by_row names value_at)

  by_value :
      (start : ℕ) (name : List ℕ) (t : Trait) (spec : Spec) (q : ℕ) (item join : Branch)
      (o : Option (Slots X)) → IsSome o
      → position_means shows t spec q o
      ≡ under_name name start (target_means shows (target_value t) spec q
      (join_branch_means shows E join) (item_branch_means shows E item q)) o
  by_value start name t spec q item join None h = absurd (cc)
  by_value start name t spec q item join (Some found) h = refl

  content_argument :
      (place end : ℕ) (kind : PieceKind) (held : Option Content) (item join : Branch) (k : ℕ)
      → content_position names kind held ≡ Some k
      → step_means shows E value_at (step_at names k (node place end kind held item join))
      ≡ node_means shows E (node place end kind held item join)
  content_argument place end kind None item join k h = refl
  content_argument place end kind (Some (text_content from cs)) item join k h = refl
  content_argument place end kind (Some (fault_content f)) item join k h = refl
  content_argument place end kind (Some (argument_content start name spec (target_list r) q)) item join k h =
      whole_means shows E value_at
      (node place end kind (Some (argument_content start name spec (target_list r) q)) item join)
  content_argument place end kinds.Closed (Some (argument_content start name spec (target_value t) q)) item join k h =
      by_value start name t spec q item join (value_at k)
      (reached k (position_below names (encode_utf8_all name) k h))
      ∙ sym (ap (λ o. under_name name start (target_means shows (target_value t) spec q
      (join_branch_means shows E join) (item_branch_means shows E item q))
      (option_and_then value_at o)) h)
  content_argument place end _ (Some (argument_content start name spec (target_value t) q)) item join k h =
      absurd (cc)

  argument_means : (o : Option ℕ) (x : Node) → node_position names x ≡ o
      → step_means shows E value_at (argument_step names o x) ≡ node_means shows E x
  argument_means None x h = whole_means shows E value_at x
  argument_means (Some k) (node place end kind held item join) h =
      content_argument place end kind held item join k h

  argument_before_means : (x : Node) (steps : List Instruction)
      → steps_mean shows E value_at (argument_step names (node_position names x) x ∷ steps)
      ≡ chain (node_means shows E x) (steps_mean shows E value_at steps)
  argument_before_means x steps =
      ap (λ m. chain m (steps_mean shows E value_at steps))
      (argument_means (node_position names x) x refl)

  node_before_means : (x : Node) (steps : List Instruction)
      → steps_mean shows E value_at (node_before names x steps)
      ≡ chain (node_means shows E x) (steps_mean shows E value_at steps)
  node_before_means (node place end kind (Some (text_content from cs)) item join) steps =
      text_before_means shows E value_at (placed_from from cs) steps
  node_before_means (node place end kind held item join) steps =
      argument_before_means (node place end kind held item join) steps

  -- the program of nodes means what they mean
  pub program_means : (xs : List Node)
      → steps_mean shows E value_at (program names xs) ≡ forest_means shows E (as_forest xs)
  program_means [] = refl
  program_means (x ∷ xs) =
      node_before_means x (program names xs) ∙ ap (chain (node_means shows E x)) (program_means xs)
