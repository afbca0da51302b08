-- A format that has no fault against a sample means none in a context that resembles it.
use Rattle.std.proofs.Common.{◌≡◌, refl, arith, ℕ, Bool, true, false, ◌||◌, List, [], ◌∷◌, ◌++◌}
use Rattle.std.proofs.Common.{length, take, Option, Some, None, is_some, inl, inr, ◌⊎◌}
use Rattle.std.proofs.Common.{if◌then◌else◌, All, unwrap_or}
use Rattle.std.proofs.lemmas.List.Elements.{All-head, All-tail, All-take, All-drop}
use Rattle.std.specs.{List.list_any, Prelude.⊤}
use Rattle.interpolator_render.specs.{Views.Shown, declared.view.Spec.Spec}
use Rattle.interpolator_render.specs.declared.view.Trait.{Trait}
use Rattle.interpolator_render.specs.declared.view.Trait.TheVariants as traits
use Rattle.interpolator_syntax.specs.Faults.{Fault, parse, iter}
use Rattle.interpolator_syntax.specs.Nodes.{Node, node, Branch, no_branch, branch, Forest, no_nodes}
use Rattle.interpolator_syntax.specs.Nodes.{nodes_and, as_forest, nodes, Content, text_content}
use Rattle.interpolator_syntax.specs.Nodes.{argument_content, fault_content, Target, target_value}
use Rattle.interpolator_syntax.specs.Nodes.{target_list}
use Rattle.interpolator_syntax.specs.declared.{piece_kind.PieceKind.PieceKind, range.Range.Range}
use Rattle.interpolator_syntax.specs.{Places.At, SpecTexts.plain_spec}
use Rattle.interpolator_eval.specs.Slots.{Slots, SlotsList, listed, no_slots, slots_and, values_of}
use Rattle.interpolator_eval.specs.Slots.{items, slot_at, slots_listed}
use Rattle.interpolator_eval.specs.Meaning.AskedNames.{asked_names, context_names, content_names}
use Rattle.interpolator_eval.specs.Meaning.AskedNames.{node_asks, branch_asks, forest_asks}
use Rattle.interpolator_eval.specs.Meaning.Choices.{chosen_items, chosen_places}
use Rattle.interpolator_eval.specs.Meaning.Environments.{Environment, slots_under, bind}
use Rattle.interpolator_eval.specs.Meaning.Environments.{environment}
use Rattle.interpolator_eval.specs.Meaning.Meanings.{Meaning, chain, value_means, forbids_list}
use Rattle.interpolator_eval.specs.Meaning.Meanings.{items_after, items_mean, under_name}
use Rattle.interpolator_eval.specs.Meaning.Meanings.{listed_means, means, and_closed, content_means}
use Rattle.interpolator_eval.specs.Meaning.Meanings.{node_means, join_branch_means}
use Rattle.interpolator_eval.specs.Meaning.Meanings.{item_branch_means, forest_means}
use Rattle.interpolator_eval.specs.Meaning.Resembling.{IsListOf, Resembles, ResemblesSome}
use Rattle.interpolator_eval.specs.Meaning.Resembling.{ResemblesOn}
use Rattle.interpolator_eval.specs.Meaning.Samples.{Sample, sample, bind_each, candidates_under}
use Rattle.interpolator_eval.specs.Meaning.Samples.{items_of_all, has_no_list}
use Rattle.interpolator_pieces.specs.NodeChecks.{fault_list, own_fault, end_fault}
use Rattle.interpolator_pieces.specs.NodeSamples.{fault_if, plain_faults, faults_over, content_pads}
use Rattle.interpolator_pieces.specs.NodeSamples.{may_be_items, target_faults, join_faults_in}
use Rattle.interpolator_pieces.specs.NodeSamples.{value_faults, found_faults, asked_faults}
use Rattle.interpolator_pieces.specs.NodeSamples.{node_faults_in, item_faults_in, forest_faults_in}
use Rattle.interpolator_pieces.specs.NodeSamples.{node_pads, branch_pads, forest_pads, pads_a_list}
use Rattle.interpolator_pieces.specs.StoredMeanings.{unclosed_fault_of}

-- no faults, and none of the parts
no_parts : (xs ys : List Fault) → xs ++ ys ≡ [] → (xs ≡ []) × (ys ≡ [])
no_parts [] ys h = (refl, h)
no_parts (x ∷ xs) ys h = absurd (cc)

not_so : (b : Bool) (f : Fault) → fault_if b f ≡ [] → b ≡ false
not_so b f h = grind arith

-- ---- meanings without fault and, if no list is padded, without memory points

abbrev Fine : (pads : Bool) → Meaning → Type 0
Fine pads m = (m.fault ≡ None) × (pads ≡ false → m.memory_points ≡ [])

fine_joined : (a b : Bool) (m k : Meaning) → Fine a m → Fine b k → Fine (a || b) (chain m k)
fine_joined a b m k h j = grind arith

fine_closed : (pads : Bool) (kind : PieceKind) (q : ℕ) (m : Meaning)
    → fault_list (unclosed_fault_of kind q) ≡ [] → Fine pads m → Fine pads (and_closed kind q m)
fine_closed pads kind q m e h = grind arith

module _ {A : Type 0} (pads : Bool) (join : Meaning) (item : A → Meaning) (joins : Fine pads join) where
  fine_after : (xs : List A) → All (λ x. Fine pads (item x)) xs → Fine pads (items_after join item xs)
  fine_after [] h = (refl, λ n. refl)
  fine_after (x ∷ xs) h =
      let P = λ (y : A). Fine pads (item y) in
      grind (arith, joins, All-head P x xs h, fine_after xs (All-tail P x xs h))

  fine_items : (xs : List A) → All (λ x. Fine pads (item x)) xs → Fine pads (items_mean join item xs)
  fine_items [] h = (refl, λ n. refl)
  fine_items (x ∷ xs) h =
      let P = λ (y : A). Fine pads (item y) in
      grind (arith, All-head P x xs h, fine_after xs (All-tail P x xs h))

module _ {X Y : Type 0} (shows : X → Trait → Spec → Shown) (others : Y → Trait → Spec → Shown)
  where
    -- ---- what resembles some of these

    abbrev SomeLike : Slots Y → List (Slots X) → Type 0
    SomeLike u [] = ⊥
    SomeLike u (x ∷ xs) = Resembles shows others u x ⊎ SomeLike u xs

    like_front : (u : Slots Y) (xs ys : List (Slots X)) → SomeLike u xs → SomeLike u (xs ++ ys)
    like_front u [] ys h = absurd h
    like_front u (x ∷ xs) ys h = grind (arith, like_front u xs ys)

    like_back : (u : Slots Y) (xs ys : List (Slots X)) → SomeLike u ys → SomeLike u (xs ++ ys)
    like_back u [] ys h = h
    like_back u (x ∷ xs) ys h = inr (like_back u xs ys h)

    like_listed : (u : Slots Y) (xs : SlotsList X) → ResemblesSome shows others u xs
        → SomeLike u (slots_listed xs)
    like_listed u no_slots h = absurd h
    like_listed u (slots_and x xs) h = grind (arith, like_listed u xs)

    -- ---- values

    fine_value : (t : Trait) (spec : Spec) (end q : ℕ) (pads : Bool) (xs : List (Slots X)) (u : Slots Y)
        → value_faults shows t spec end xs ≡ [] → SomeLike u xs
        → Fine pads (value_means others t spec q (slot_at t (values_of u)))
    fine_value t spec end q pads [] u none h = absurd h
    fine_value t spec end q pads (x ∷ xs) u none h =
        grind (arith, fine_value t spec end q pads xs u)

    -- an item without a format
    fine_plain : (s : Sample X) (held : Content) (q : ℕ) (u : Slots Y)
        → plain_faults shows held (may_be_items s held) ≡ [] → SomeLike u (may_be_items s held)
        → Fine false (value_means others traits.Display plain_spec q (slot_at traits.Display (values_of u)))
    fine_plain s (argument_content start name spec wanted end) q u none like =
        fine_value traits.Display plain_spec end q false _ u none like
    fine_plain s (text_content from cs) q u none like = absurd like
    fine_plain s (fault_content f) q u none like = absurd like

    -- ---- lists

    -- a list, each of whose items resembles some of these
    abbrev ListLike : Option (List (Slots Y)) → List (Slots X) → Type 0
    ListLike o xs = (us : List (Slots Y)) × (o ≡ Some us) × All (λ u. SomeLike u xs) us

    by_items : (inner : SlotsList X) (xs : List (Slots X)) (o : Option (List (Slots Y)))
        → IsListOf (λ item. ResemblesSome shows others item inner) o
        → ListLike o (slots_listed inner ++ xs)
    by_items inner xs o h = grind (arith, like_front, like_listed)

    list_among : (xs : List (Slots X)) (u : Slots Y) → list_any has_no_list xs ≡ false
        → SomeLike u xs → ListLike (items u) (items_of_all xs)
    list_among (listed filled inner ∷ xs) u m (inl r) = by_items inner (items_of_all xs) (items u) r.1
    list_among (listed filled inner ∷ xs) u m (inr h) =
        let more = list_among xs u m h in
        (more.0, more.1, λ k d l. like_back _ (slots_listed inner) (items_of_all xs) (more.2 k d l))
    list_among xs u m h = absurd (grind arith)

    fine_list : (range : Option Range) (spec : Spec) (q : ℕ) (join : Meaning)
        (item : Slots Y → Meaning) (xs : List (Slots X)) (u : Slots Y) (a b : Bool)
        → list_any has_no_list xs ≡ false
        → fault_list (if forbids_list spec then Some (parse (iter q)) else None) ≡ []
        → Fine b join → ((v : Slots Y) → SomeLike v (items_of_all xs) → Fine a (item v))
        → SomeLike u xs
        → Fine (is_some spec.width || (a || b)) (listed_means range spec q join item (items u))
    fine_list range spec q join item xs u a b lists own joins each h =
        let like = list_among xs u lists h in
        let us = like.0 in
        let places = chosen_places (length us) range in
        let chosen = All-drop (λ v. SomeLike v (items_of_all xs)) places.0 (take places.1 us)
        (All-take (λ v. SomeLike v (items_of_all xs)) places.1 us like.2) in
        let fine = fine_items (a || b) join item (grind (arith, joins)) (chosen_items range us)
        (λ k d l. let one = each _ (chosen k d l) in grind (arith, one)) in
        rw (like.1) (grind (arith, own, fine))

    -- ---- names

    abbrev LikeFound : Option (Slots Y) → Option (List (Slots X)) → Type 0
    LikeFound o None = ⊤
    LikeFound None (Some xs) = ⊥
    LikeFound (Some u) (Some xs) = SomeLike u xs

    -- what is under each of these names resembles some of what the sample may have there
    abbrev LikeOn : Sample X → Environment Y → List (List ℕ) → Type 0
    LikeOn s e [] = ⊤
    LikeOn s e (name ∷ names) =
        LikeFound (slots_under e name) (candidates_under s name) × LikeOn s e names

    like_parts : (s : Sample X) (e : Environment Y) (xs ys : List (List ℕ)) → LikeOn s e (xs ++ ys)
        → LikeOn s e xs × LikeOn s e ys
    like_parts s e [] ys h = (tt, h)
    like_parts s e (x ∷ xs) ys h =
        grind (arith, like_parts s e xs ys h.1)

    -- in an item format the empty name is not among them
    abbrev Inner : (in_item : Bool) → Sample X → Environment Y → Type 0
    Inner true s e = LikeFound (slots_under e []) (candidates_under s [])
    Inner false s e = ⊤

    own_like : (in_item : Bool) (s : Sample X) (e : Environment Y) (name : List ℕ) → Inner in_item s e
        → LikeOn s e (context_names in_item name)
        → LikeFound (slots_under e name) (candidates_under s name)
    own_like in_item s e name i h = grind arith

    bound_like : (s : Sample X) (e : Environment Y) (xs : List (Slots X)) (u : Slots Y)
        (names : List (List ℕ)) → SomeLike u xs → LikeOn s e names
        → LikeOn (bind_each s xs) (bind e u) names
    bound_like s e xs u [] like h = tt
    bound_like s e xs u (name ∷ names) like h = grind (arith, bound_like s e xs u names like h.1)

    from_resembling : (finds : List ℕ → Option (Slots X)) (e : Environment Y) (names : List (List ℕ))
        → ResemblesOn shows others e (environment finds) names → LikeOn (sample finds) e names
    from_resembling finds e [] h = tt
    from_resembling finds e (name ∷ names) h =
        grind (arith, from_resembling finds e names h.1)

    -- ---- what a piece holds

    fine_found : (start : ℕ) (name : List ℕ) (wanted : Target) (spec : Spec) (q : ℕ) (pads : Bool)
        (meant : Slots Y → Meaning) (o : Option (Slots Y)) (p : Option (List (Slots X)))
        → LikeFound o p → found_faults shows start name wanted spec q p ≡ []
        → ((u : Slots Y) → target_faults shows wanted spec q (unwrap_or p []) ≡ []
        → SomeLike u (unwrap_or p []) → Fine pads (meant u))
        → Fine pads (under_name name start meant o)
    fine_found start name wanted spec q pads meant o p like none each = grind arith

    fine_content : (in_item : Bool) (s : Sample X) (e : Environment Y) (kind : PieceKind)
        (held : Content) (join : Meaning) (item : ℕ → Slots Y → Meaning) (a b : Bool)
        → asked_faults shows s held ≡ [] → fault_list (own_fault held) ≡ []
        → fault_list (end_fault kind held) ≡ [] → Inner in_item s e
        → LikeOn s e (content_names in_item (Some held)) → Fine b join
        → ((q : ℕ) (u : Slots Y) → SomeLike u (may_be_items s held) → Fine a (item q u))
        → Fine (content_pads (Some held) || (a || b)) (content_means others e kind held join item)
    fine_content in_item s e kind (argument_content start name spec (target_value t) q) join item a b none own
        last i h joins each =
        fine_closed (a || b) kind q _ last
        (fine_found start name (target_value t) spec q (a || b) _ _ (candidates_under s name)
        (own_like in_item s e name i h) none (fine_value t spec q q (a || b) _))
    fine_content in_item s e kind (argument_content start name spec (target_list range) q) join item a b none own
        last i h joins each =
        fine_closed _ kind q _ last
        (fine_found start name (target_list range) spec q _ _ _ (candidates_under s name)
        (own_like in_item s e name i h) none
        (λ u faults like. fine_list range spec q join (item q) _ u a b (not_so _ _ faults) own joins
        (each q) like))
    fine_content in_item s e kind held join item a b none own last i h joins each = grind arith

    -- ---- at every depth

    mutual
      fine_node : (x : Node) (in_item : Bool) (s : Sample X) (e : Environment Y)
          → node_faults_in shows s x ≡ [] → Inner in_item s e → LikeOn s e (node_asks in_item x)
          → Fine (node_pads x) (node_means others e x)
      fine_node (node place end kind None item join) in_item s e none i h = (refl, λ n. refl)
      fine_node (node place end kind (Some held) item join) in_item s e none i h =
          let asked = no_parts (asked_faults shows s held) _ none in
          let own = no_parts (fault_list (own_fault held)) _ asked.1 in
          let looked = no_parts (item_faults_in shows s held item) _ own.1 in
          let between = no_parts (join_faults_in shows s join) _ looked.1 in
          let mine = like_parts s e (content_names in_item (Some held)) _ h in
          let groups = like_parts s e (branch_asks true item) (branch_asks in_item join) mine.1 in
          fine_content in_item s e kind held _ _ (branch_pads item) (branch_pads join) asked.0 own.0
          between.1 i mine.0 (fine_join join in_item s e between.0 i groups.1)
          (λ q u like. fine_item item s e held q u looked.0 groups.0 like)

      fine_join : (x : Branch) (in_item : Bool) (s : Sample X) (e : Environment Y)
          → join_faults_in shows s x ≡ [] → Inner in_item s e → LikeOn s e (branch_asks in_item x)
          → Fine (branch_pads x) (join_branch_means others e x)
      fine_join no_branch in_item s e none i h = (refl, λ n. refl)
      fine_join (branch xs) in_item s e none i h = fine_forest xs in_item s e none i h

      fine_item : (x : Branch) (s : Sample X) (e : Environment Y) (held : Content) (q : ℕ)
          (u : Slots Y) → item_faults_in shows s held x ≡ [] → LikeOn s e (branch_asks true x)
          → SomeLike u (may_be_items s held) → Fine (branch_pads x) (item_branch_means others e x q u)
      fine_item no_branch s e held q u none h like = fine_plain s held q u none like
      fine_item (branch xs) s e held q u none h like =
          fine_forest xs true (bind_each s (may_be_items s held)) (bind e u) none like
          (bound_like s e (may_be_items s held) u (forest_asks true xs) like h)

      fine_forest : (xs : Forest) (in_item : Bool) (s : Sample X) (e : Environment Y)
          → forest_faults_in shows s xs ≡ [] → Inner in_item s e → LikeOn s e (forest_asks in_item xs)
          → Fine (forest_pads xs) (forest_means others e xs)
      fine_forest no_nodes in_item s e none i h = (refl, λ n. refl)
      fine_forest (nodes_and x xs) in_item s e none i h =
          let parts = no_parts (node_faults_in shows s x) _ none in
          let names = like_parts s e (node_asks in_item x) (forest_asks in_item xs) h in
          fine_joined (node_pads x) (forest_pads xs) _ _ (fine_node x in_item s e parts.0 i names.0)
          (fine_forest xs in_item s e parts.1 i names.1)

module _ {X Y : Type 0} (shows : X → Trait → Spec → Shown) (others : Y → Trait → Spec → Shown)
    (finds : List ℕ → Option (Slots X)) (e : Environment Y) (a : At)
    (none : faults_over shows finds a ≡ [])
    (like : ResemblesOn shows others e (environment finds) (asked_names a)) where
  fine_text : Fine (pads_a_list a) (means others e a)
  fine_text =
      fine_forest shows others (as_forest (nodes a)) false (sample finds) e none tt
      (from_resembling shows others finds e (asked_names a) like)

  -- no fault
  pub no_fault : (means others e a).fault ≡ None
  no_fault = fine_text.0

  -- and no memory is taken, if no list is under a width
  pub no_memory_point : pads_a_list a ≡ false → (means others e a).memory_points ≡ []
  no_memory_point = fine_text.1
