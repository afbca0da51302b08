-- A text means the same in two contexts that have equal values under the names that it uses.
use Rattle.std.proofs.Common.{map, option_map, ◌≡◌, ℕ, true, false, List, [], ◌∷◌}
use Rattle.std.proofs.Common.{◌++◌, arith, refl, Option, Some, None}
use Rattle.interpolator_render.specs.declared.view.Trait.{Trait}
use Rattle.interpolator_render.specs.declared.view.Trait.TheVariants as traits
use Rattle.interpolator_render.specs.{declared.view.Spec.Spec, Views.Shown, Writers.Written}
use Rattle.interpolator_syntax.specs.Nodes.{Node, node, Branch, no_branch, branch, Forest, no_nodes}
use Rattle.interpolator_syntax.specs.Nodes.{nodes_and, Content, Target}
use Rattle.interpolator_syntax.specs.declared.{piece_kind.PieceKind.PieceKind, range.Range.Range}
use Rattle.interpolator_syntax.specs.{Places.At, Faults.Answer, SpecTexts.plain_spec}
use Rattle.interpolator_eval.specs.Slots.{Slots, SlotsList, bare, listed, no_slots, slots_and}
use Rattle.interpolator_eval.specs.Slots.{values_of, Values, slots_listed, items}
use Rattle.interpolator_eval.specs.Meaning.AskedNames.{without_empty, content_names, branch_asks}
use Rattle.interpolator_eval.specs.Meaning.AskedNames.{node_asks, forest_asks, asked_names, AgreeOn}
use Rattle.interpolator_eval.specs.Meaning.Environments.{Environment, slots_under, bind}
use Rattle.interpolator_eval.specs.Meaning.EqualValues.{EqualSlot, EqualValues, EqualSlots}
use Rattle.interpolator_eval.specs.Meaning.EqualValues.{EqualItems, EqualFound, EqualOn}
use Rattle.interpolator_eval.specs.Meaning.Meanings.{Meaning, join_branch_means, item_branch_means}
use Rattle.interpolator_eval.specs.Meaning.Meanings.{chain, value_means, items_after, forest_means}
use Rattle.interpolator_eval.specs.Meaning.Meanings.{items_mean, under_name, node_means, means}
use Rattle.interpolator_eval.specs.Meaning.Meanings.{listed_means, target_means, content_means}
use Rattle.interpolator_eval.specs.{Meaning.Choices.chosen_items, Meaning.Outcomes.Finished}
use Rattle.interpolator_eval.proofs.MeaningLemmas.ChoiceLemmas.{map-chosen}
use Rattle.interpolator_eval.proofs.MeaningLemmas.AskedPieceLemmas.{branch_in_item}

-- a name that is not empty means the same with any inner value
pub bound_same : {X : Type 0} (e : Environment X) (t : Slots X) (c : ℕ) (cs : List ℕ)
    → slots_under (bind e t) (c ∷ cs) ≡ slots_under e (c ∷ cs)
bound_same e t c cs = grind arith

both_same : {m k l o : Meaning} → m ≡ k → l ≡ o → chain m l ≡ chain k o
both_same e h = cc

-- what items mean depends on what each of them means alone
after_by_meanings : {A : Type 0} (join : Meaning) (item : A → Meaning) (xs : List A)
    → items_after join item xs ≡ items_after join (λ m. m) (map item xs)
after_by_meanings join item [] = refl
after_by_meanings join item (x ∷ xs) = grind (arith, after_by_meanings join item xs)

items_by_meanings : {A : Type 0} (join : Meaning) (item : A → Meaning) (xs : List A)
    → items_mean join item xs ≡ items_mean join (λ m. m) (map item xs)
items_by_meanings join item xs = grind (arith, after_by_meanings)

list_by_meanings : {A : Type 0} (range : Option Range) (spec : Spec) (q : ℕ) (join : Meaning)
    (item : A → Meaning) (o : Option (List A)) → listed_means range spec q join item o
    ≡ listed_means range spec q join (λ m. m) (option_map (map item) o)
list_by_meanings range spec q join item None = refl
list_by_meanings range spec q join item (Some xs) =
    rw (items_by_meanings join item (chosen_items range xs), map-chosen item range xs) refl

module _ {X Y : Type 0} (shows : X → Trait → Spec → Shown) (others : Y → Trait → Spec → Shown) where
  -- ---- what is under a name

  value_equal :
      (t : Trait) (spec : Spec) (q : ℕ) (o : Option X) (k : Option Y)
      → EqualSlot shows others t o k
      → value_means shows t spec q o ≡ value_means others t spec q k
  value_equal t spec q o k h = grind arith

  abbrev Equal : Slots X → Slots Y → Type 0
  Equal tree other = EqualSlots shows others tree other

  values_equal : (tree : Slots X) (other : Slots Y) → Equal tree other
      → EqualValues shows others (values_of tree) (values_of other)
  values_equal tree other h = grind arith

  -- ---- lists whose items are equal one by one

  module _ (f : Slots X → Meaning) (g : Slots Y → Meaning)
      (each : (x : Slots X) (y : Slots Y) → Equal x y → f x ≡ g y) where
    mapped_equal : (us : SlotsList X) (vs : SlotsList Y) → EqualItems shows others us vs
        → map f (slots_listed us) ≡ map g (slots_listed vs)
    mapped_equal (slots_and t us) (slots_and u vs) h =
        grind (arith, each t u, mapped_equal us vs h.1)
    mapped_equal us vs h = grind arith

    items_equal : (tree : Slots X) (other : Slots Y) → Equal tree other
        → option_map (map f) (items tree) ≡ option_map (map g) (items other)
    items_equal tree other h = grind (arith, mapped_equal)

    list_equal : (range : Option Range) (spec : Spec) (q : ℕ) (j k : Meaning) (x : Slots X)
        (y : Slots Y) → j ≡ k → Equal x y
        → listed_means range spec q j f (items x) ≡ listed_means range spec q k g (items y)
    list_equal range spec q j k x y joins h = rw (
      list_by_meanings range spec q j f (items x),
      list_by_meanings range spec q k g (items y),
      items_equal x y h,
      joins,
    ) refl

  -- ---- environments

  abbrev Agree : Environment X → Environment Y → List (List ℕ) → Type 0
  Agree e d names = EqualOn shows others e d names

  agree_each : (e : Environment X) (d : Environment Y) (xs ys : List (List ℕ))
      → Agree e d (xs ++ ys) → Agree e d xs × Agree e d ys
  agree_each e d [] ys h = (tt, h)
  agree_each e d (x ∷ xs) ys h = grind (arith, agree_each e d xs ys h.1)

  agree_bound : (e : Environment X) (d : Environment Y) (t : Slots X) (u : Slots Y)
      (names : List (List ℕ)) → Equal t u → Agree e d (without_empty names)
      → Agree (bind e t) (bind d u) names
  agree_bound e d t u [] k h = tt
  agree_bound e d t u (name ∷ names) k h =
      grind (arith, bound_same, agree_bound e d t u names k)

  -- ---- a text

  target_equal : (asked : Target) (spec : Spec) (q : ℕ) (j k : Meaning) (f : Slots X → Meaning)
      (g : Slots Y → Meaning) (x : Slots X) (y : Slots Y) → j ≡ k
      → ((x : Slots X) (y : Slots Y) → Equal x y → f x ≡ g y) → Equal x y
      → target_means shows asked spec q j f x ≡ target_means others asked spec q k g y
  target_equal asked spec q j k f g x y joins each h =
      grind (arith, value_equal, values_equal, list_equal f g each)

  found_equal : (name : List ℕ) (start : ℕ) (means : Slots X → Meaning) (mean : Slots Y → Meaning)
      (o : Option (Slots X)) (p : Option (Slots Y))
      → ((x : Slots X) (y : Slots Y) → Equal x y → means x ≡ mean y) → EqualFound shows others o p
      → under_name name start means o ≡ under_name name start mean p
  found_equal name start means mean o p each h = grind arith

  content_equal : (e : Environment X) (d : Environment Y) (kind : PieceKind) (held : Content)
      (j k : Meaning) (f : ℕ → Slots X → Meaning) (g : ℕ → Slots Y → Meaning) → j ≡ k
      → ((q : ℕ) (x : Slots X) (y : Slots Y) → Equal x y → f q x ≡ g q y)
      → Agree e d (content_names false (Some held))
      → content_means shows e kind held j f ≡ content_means others d kind held k g
  content_equal e d kind held j k f g joins each h = grind (arith, found_equal, target_equal)

  mutual
    node_equal : (x : Node) (e : Environment X) (d : Environment Y) → Agree e d (node_asks false x)
        → node_means shows e x ≡ node_means others d x
    node_equal (node place end kind None item join) e d h = refl
    node_equal (node place end kind (Some held) item join) e d h =
        let own = agree_each e d (content_names false (Some held)) _ h in
        let groups = agree_each e d (branch_asks true item) (branch_asks false join) own.1 in
        content_equal e d kind held _ _ _ _ (join_equal join e d groups.1)
        (item_equal item e d groups.0) own.0

    join_equal : (b : Branch) (e : Environment X) (d : Environment Y)
        → Agree e d (branch_asks false b)
        → join_branch_means shows e b ≡ join_branch_means others d b
    join_equal no_branch e d h = refl
    join_equal (branch xs) e d h = forest_equal xs e d h

    item_equal : (b : Branch) (e : Environment X) (d : Environment Y)
        → Agree e d (branch_asks true b) → (q : ℕ) (x : Slots X) (y : Slots Y) → Equal x y
        → item_branch_means shows e b q x ≡ item_branch_means others d b q y
    item_equal no_branch e d h q x y same =
        value_equal traits.Display plain_spec q _ _ (values_equal x y same traits.Display)
    item_equal (branch xs) e d h q x y same =
        forest_equal xs (bind e x) (bind d y)
        (agree_bound e d x y _ same (rw (branch_in_item (branch xs)) at h))

    forest_equal : (xs : Forest) (e : Environment X) (d : Environment Y)
        → Agree e d (forest_asks false xs) → forest_means shows e xs ≡ forest_means others d xs
    forest_equal no_nodes e d h = refl
    forest_equal (nodes_and x xs) e d h =
        let each = agree_each e d (node_asks false x) _ h in
        both_same (node_equal x e d each.0) (forest_equal xs e d each.1)

  -- with equal values under the names that are used, a text means the same
  pub means_equal : (e : Environment X) (d : Environment Y) (a : At) → Agree e d (asked_names a)
      → means shows e a ≡ means others d a
  means_equal e d a h = grind (arith, forest_equal)

  -- ---- outcomes

  -- so if both finish, they have the same outcome
  pub outcomes_equal :
      (e : Environment X) (d : Environment Y) (a : At) (old new other : Written)
      (answer reported : Option Answer) → Agree e d (asked_names a)
      → Finished (means shows e a) old new answer → Finished (means others d a) old other reported
      → (new ≡ other) × (answer ≡ reported)
  outcomes_equal e d a old new other answer reported agree h k = grind (arith, means_equal)

-- ---- one type of values

module _ {X : Type 0} (shows : X → Trait → Spec → Shown) where
  values_itself : (v : Values X) → EqualValues shows shows v v
  values_itself v = grind arith

  mutual
    slots_itself : (tree : Slots X) → EqualSlots shows shows tree tree
    slots_itself (bare v) = values_itself v
    slots_itself (listed v us) = (values_itself v, list_itself us)

    list_itself : (us : SlotsList X) → EqualItems shows shows us us
    list_itself no_slots = tt
    list_itself (slots_and tree us) = (slots_itself tree, list_itself us)

  agree_equal : (e d : Environment X) (names : List (List ℕ)) → AgreeOn e d names
      → EqualOn shows shows e d names
  agree_equal e d [] h = tt
  agree_equal e d (name ∷ names) h = grind (arith, slots_itself, agree_equal e d names h.1)

  -- what environments have under names that are not used does not matter
  pub means_same : (e d : Environment X) (a : At) → AgreeOn e d (asked_names a)
      → means shows e a ≡ means shows d a
  means_same e d a h = grind (arith, means_equal, agree_equal)
