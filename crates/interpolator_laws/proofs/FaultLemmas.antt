-- What a fault of a meaning comes from: it is one that the text has by itself, or that of a missing
-- value, unless some value has no slot or fails; and faults in lists of faults.
use Rattle.std.proofs.lemmas.Grind.{common_steps}
use Rattle.std.proofs.Common.{◌≡◌, refl, arith, ℕ, Bool, true, false, List, ◌∷◌, ◌++◌, Option, Some}
use Rattle.std.proofs.Common.{None, inl, inr, ◌⊎◌, Contains}
use Rattle.std.proofs.lemmas.List.Elements.{Contains-append_left, Contains-append_right}
use Rattle.std.specs.Prelude.{⊤}
use Rattle.interpolator_render.specs.{Views.Shown, declared.view.Spec.Spec}
use Rattle.interpolator_render.specs.declared.view.Trait.{Trait}
use Rattle.interpolator_render.specs.declared.view.Trait.TheVariants as traits
use Rattle.interpolator_syntax.specs.Faults.{Fault, missing_trait_impl, fmt, missing_value}
use Rattle.interpolator_syntax.specs.Nodes.{Node, node, Branch, no_branch, branch, Forest, no_nodes}
use Rattle.interpolator_syntax.specs.Nodes.{nodes_and, Content, argument_content, Target}
use Rattle.interpolator_syntax.specs.Nodes.{target_value, target_list}
use Rattle.interpolator_syntax.specs.{SpecTexts.plain_spec, declared.piece_kind.PieceKind.PieceKind}
use Rattle.interpolator_eval.specs.Slots.{Slots}
use Rattle.interpolator_eval.specs.Meaning.AskedNames.{context_names, content_names, node_asks}
use Rattle.interpolator_eval.specs.Meaning.AskedNames.{branch_asks, forest_asks}
use Rattle.interpolator_eval.specs.Meaning.Environments.{Environment, slots_under, bind}
use Rattle.interpolator_eval.specs.Meaning.Meanings.{Meaning, join_branch_means, item_branch_means}
use Rattle.interpolator_eval.specs.Meaning.Meanings.{chain, items_after, items_mean, node_means}
use Rattle.interpolator_eval.specs.Meaning.Meanings.{value_means, content_means, forest_means}
use Rattle.interpolator_eval.proofs.MeaningLemmas.EqualLemmas.{bound_same}
use Rattle.interpolator_pieces.specs.NodeChecks.{fault_list, first_fault, own_fault, end_fault}
use Rattle.interpolator_pieces.specs.NodeChecks.{node_faults, branch_faults, forest_faults}

-- ---- lists of faults

pub in_one : (o : Option Fault) (f : Fault) → Contains (fault_list o) f → o ≡ Some f
in_one o f h = grind arith

pub one_in : (o : Option Fault) (f : Fault) → o ≡ Some f → Contains (fault_list o) f
one_in o f h = grind arith

pub none_in : (xs : List Fault) (f : Fault) → first_fault xs ≡ None → ¬ (Contains xs f)
none_in xs f h k = grind arith

-- among four lists, one after the other
module _ (xs ys zs ws : List Fault) (f : Fault) where
  abbrev all_four : List Fault
  all_four = xs ++ (ys ++ (zs ++ ws))

  pub in_first : Contains xs f → Contains all_four f
  in_first h = grind (arith, common_steps)

  pub in_second : Contains ys f → Contains all_four f
  in_second h =
      Contains-append_right xs (ys ++ (zs ++ ws)) f (Contains-append_left ys (zs ++ ws) f h)

  pub in_third : Contains zs f → Contains all_four f
  in_third h =
      Contains-append_right xs (ys ++ (zs ++ ws)) f
      (Contains-append_right ys (zs ++ ws) f (Contains-append_left zs ws f h))

  pub in_fourth : Contains ws f → Contains all_four f
  in_fourth h =
      Contains-append_right xs (ys ++ (zs ++ ws)) f
      (Contains-append_right ys (zs ++ ws) f (Contains-append_right zs ws f h))

-- ---- names that nothing is under

-- in an item format the environment gives the item under the empty name
abbrev pub Bound : {X : Type 0} → (in_item : Bool) → Environment X → Type 0
Bound {X} true e = (t : Slots X) × (e.inner ≡ Some t)
Bound false e = ⊤

module _ {X : Type 0} where
  -- an argument's own name
  own_missed : (in_item : Bool) (e : Environment X) (name : List ℕ) → Bound in_item e
      → slots_under e name ≡ None → Contains (context_names in_item name) name
  own_missed in_item e name b h = grind arith

-- ---- a fault that is not a value's

module _ (f : Fault) (filled : (t : Trait) (q : ℕ) → ¬ (missing_trait_impl t q ≡ f))
    (written : (q : ℕ) → ¬ (fmt q ≡ f)) where
  -- what follows if a meaning has the fault
  abbrev If : Type 0 → Meaning → Type 0
  If R m = m.fault ≡ Some f → R

  module _ (R : Type 0) where
    if_joined : (m k : Meaning) → If R m → If R k → If R (chain m k)
    if_joined m k h j e = grind arith

    module _ {A : Type 0} (join : Meaning) (item : A → Meaning) (joins : If R join)
        (each : (x : A) → If R (item x)) where
      if_after : (xs : List A) → If R (items_after join item xs)
      if_after (x ∷ xs) e = grind (arith, joins, each x, if_after xs)
      if_after xs e = grind arith

      if_items : (xs : List A) → If R (items_mean join item xs)
      if_items xs e = grind (arith, if_after)

    module _ {X : Type 0} (shows : X → Trait → Spec → Shown) where
      if_value : (t : Trait) (spec : Spec) (q : ℕ) (o : Option X) → If R (value_means shows t spec q o)
      if_value t spec q o e = grind arith

      -- what a piece holds
      if_content : (e : Environment X) (kind : PieceKind) (held : Content) (join : Meaning)
          (item : ℕ → Slots X → Meaning) → (own_fault held ≡ Some f → R)
          → (end_fault kind held ≡ Some f → R)
          → ((start q : ℕ) (name : List ℕ) (spec : Spec) (target : Target)
          → held ≡ argument_content start name spec target q → slots_under e name ≡ None
          → missing_value name start ≡ f → R)
          → If R join → ((q : ℕ) (x : Slots X) → If R (item q x))
          → If R (content_means shows e kind held join item)
      if_content e kind (argument_content start name spec (target_value t) q) join item own last missing j i
          is =
          grind (arith, last, missing start q name spec (target_value t) refl, if_value)
      if_content e kind (argument_content start name spec (target_list range) q) join item own last missing j i
          is =
          grind (
            arith,
            filled,
            own,
            last,
            missing start q name spec (target_list range) refl,
            if_items join (item q) j (i q),
          )
      if_content e kind held join item own last missing j i is = grind (arith, own)

  -- the fault is among these, or that of a missing value whose name is one of these, and the
  -- environment gives nothing under it
  abbrev pub Cause : {X : Type 0} → Environment X → List Fault → List (List ℕ) → Type 0
  Cause e faults names =
      Contains faults f ⊎ ((name : List ℕ) × (place : ℕ) × (missing_value name place ≡ f)
      × Contains names name × (slots_under e name ≡ None))

  module _ {X : Type 0} where
    cause_more : (e : Environment X) (faults more : List Fault) (names others : List (List ℕ))
        → (Contains faults f → Contains more f)
        → ((name : List ℕ) → Contains names name → Contains others name) → Cause e faults names
        → Cause e more others
    cause_more e faults more names others into among cause = grind arith

    cause_outside : (e : Environment X) (t : Slots X) (faults : List Fault) (names : List (List ℕ))
        → Cause (bind e t) faults names → Cause e faults names
    cause_outside e t faults names cause = grind (arith, bound_same)

  module _ {X : Type 0} (shows : X → Trait → Spec → Shown) where
    mutual
      node_cause : (x : Node) (in_item : Bool) (e : Environment X) → Bound in_item e
          → If (Cause e (node_faults x) (node_asks in_item x)) (node_means shows e x)
      node_cause (node place end kind None item join) in_item e b is = absurd (cc)
      node_cause (node place end kind (Some held) item join) in_item e b is =
          let own = fault_list (own_fault held) in
          let last = fault_list (end_fault kind held) in
          let items = branch_faults item in
          let joins = branch_faults join in
          let mine = content_names in_item (Some held) in
          let inner = branch_asks true item in
          let between = branch_asks in_item join in
          if_content (Cause e (own ++ (items ++ (joins ++ last))) (mine ++ (inner ++ between))) shows e
          kind held (join_branch_means shows e join) (item_branch_means shows e item)
          (λ h. inl (in_first own items joins last f (one_in (own_fault held) f h)))
          (λ h. inl (in_fourth own items joins last f (one_in (end_fault kind held) f h)))
          (λ start q name spec target at none same. inr (
            name,
            start,
            same,
            Contains-append_left mine (inner ++ between) name (rw at (own_missed in_item e name b none)),
            none,
          ))
          (λ h. cause_more e joins _ between _ (in_third own items joins last f)
          (λ n k.
          Contains-append_right mine (inner ++ between) n (Contains-append_right inner between n k))
          (join_cause join in_item e b h))
          (λ q x h. cause_more e items _ inner _ (in_second own items joins last f)
          (λ n k.
          Contains-append_right mine (inner ++ between) n (Contains-append_left inner between n k))
          (item_cause item e q x h)) is

      join_cause : (x : Branch) (in_item : Bool) (e : Environment X) → Bound in_item e
          → If (Cause e (branch_faults x) (branch_asks in_item x)) (join_branch_means shows e x)
      join_cause no_branch in_item e b is = absurd (cc)
      join_cause (branch xs) in_item e b is = forest_cause xs in_item e b is

      item_cause : (x : Branch) (e : Environment X) (q : ℕ) (found : Slots X)
          → If (Cause e (branch_faults x) (branch_asks true x)) (item_branch_means shows e x q found)
      item_cause no_branch e q found is = if_value _ shows traits.Display plain_spec q _ is
      item_cause (branch xs) e q found is =
          cause_outside e found (forest_faults xs) (forest_asks true xs)
          (forest_cause xs true (bind e found) (found, refl) is)

      pub forest_cause : (xs : Forest) (in_item : Bool) (e : Environment X) → Bound in_item e
          → If (Cause e (forest_faults xs) (forest_asks in_item xs)) (forest_means shows e xs)
      forest_cause no_nodes in_item e b is = absurd (cc)
      forest_cause (nodes_and x xs) in_item e b is =
          if_joined _ _ _
          (λ h. cause_more e (node_faults x) _ (node_asks in_item x) _
          (Contains-append_left (node_faults x) (forest_faults xs) f)
          (Contains-append_left (node_asks in_item x) (forest_asks in_item xs))
          (node_cause x in_item e b h))
          (λ h. cause_more e (forest_faults xs) _ (forest_asks in_item xs) _
          (Contains-append_right (node_faults x) (forest_faults xs) f)
          (Contains-append_right (node_asks in_item x) (forest_asks in_item xs))
          (forest_cause xs in_item e b h)) is
