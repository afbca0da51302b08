-- Within limits, writing what pieces mean costs no more than their cost.
use Rattle.std.proofs.Common.{rules, ◌≡◌, refl, arith, ℕ, suc, ◌+◌, ◌-◌, ◌*◌, ◌≤◌, max, Bool, true}
use Rattle.std.proofs.Common.{false, List, [], ◌∷◌, ◌++◌, length, Option, None, Some, length-append}
use Rattle.std.proofs.Common.{◌≢◌, ◌^◌}
use Rattle.std.proofs.lemmas.List.{length-map}
use Rattle.std.specs.{Prelude.⊤, Char.len_utf8}
use Rattle.interpolator_render.specs.{Lengths.usize_count, Views.Shown, declared.view.Spec.Spec}
use Rattle.interpolator_render.specs.declared.view.Trait.{Trait}
use Rattle.interpolator_render.specs.declared.view.Trait.TheVariants as traits
use Rattle.interpolator_render.proofs.LawLemmas.{padded_text_count}
use Rattle.interpolator_render.proofs.LengthLemmas.{view_within, written_grows}
use Rattle.interpolator_syntax.specs.Nodes.{Node, node, Branch, no_branch, branch, Forest, no_nodes}
use Rattle.interpolator_syntax.specs.Nodes.{nodes_and, as_forest, nodes, Content, text_content}
use Rattle.interpolator_syntax.specs.Nodes.{argument_content, fault_content, Target, target_value}
use Rattle.interpolator_syntax.specs.Nodes.{target_list}
use Rattle.interpolator_syntax.specs.{Places.At, Places.placed_from, Faults.Fault}
use Rattle.interpolator_syntax.specs.{Faults.missing_value}
use Rattle.interpolator_syntax.specs.{SpecTexts.plain_spec, declared.piece_kind.PieceKind.PieceKind}
use Rattle.interpolator_syntax.specs.declared.range.Range.{Range}
use Rattle.interpolator_eval.specs.Slots.{Slots, SlotsList, no_slots, slots_and, values_of, items}
use Rattle.interpolator_eval.specs.Slots.{slot_at, slots_listed}
use Rattle.interpolator_eval.specs.Meaning.AskedNames.{asked_names, content_names, node_asks}
use Rattle.interpolator_eval.specs.Meaning.AskedNames.{branch_asks, forest_asks}
use Rattle.interpolator_eval.specs.Meaning.Choices.{chosen_items}
use Rattle.interpolator_eval.specs.Meaning.Environments.{Environment, slots_under, bind}
use Rattle.interpolator_eval.specs.Meaning.Limits.{SlotWithin, ValuesWithin, SlotsWithin}
use Rattle.interpolator_eval.specs.Meaning.Limits.{ItemsWithin, FoundWithin, IsWithin, most_chosen}
use Rattle.interpolator_eval.specs.Meaning.Meanings.{Meaning, chain, value_means, items_after}
use Rattle.interpolator_eval.specs.Meaning.Meanings.{items_mean, under_name, listed_means, means}
use Rattle.interpolator_eval.specs.Meaning.Meanings.{padded_list, target_means, content_means}
use Rattle.interpolator_eval.specs.Meaning.Meanings.{node_means, join_branch_means}
use Rattle.interpolator_eval.specs.Meaning.Meanings.{item_branch_means, forest_means}
use Rattle.interpolator_eval.specs.Meaning.Work.{Work, no_work, piece_and, or_stop, work_after}
use Rattle.interpolator_eval.specs.Meaning.Work.{items_work, chosen_work, listed_work, under_work}
use Rattle.interpolator_eval.specs.Meaning.Work.{target_work, content_work, node_work}
use Rattle.interpolator_eval.specs.Meaning.Work.{join_branch_work, item_branch_work, forest_work}
use Rattle.interpolator_eval.specs.Meaning.Work.{text_work}
use Rattle.interpolator_eval.proofs.MeaningLemmas.EqualLemmas.{bound_same}
use Rattle.interpolator_pieces.specs.NodeCosts.{piece_cost, then_cost, items_cost, padded_cost}
use Rattle.interpolator_pieces.specs.NodeCosts.{value_cost, content_cost, node_cost}
use Rattle.interpolator_pieces.specs.NodeCosts.{item_branch_cost, join_branch_cost, forest_cost}
use Rattle.interpolator_pieces.specs.NodeCosts.{text_cost}
use Rattle.interpolator_pieces.specs.{declared.cost.Cost.Cost, declared.cost.Limits.Limits}
use Rattle.interpolator_pieces.proofs.RangeLemmas.{Each, each_chosen, chosen_fewer, chosen_grows}

-- ---- what costs no more

-- a meaning, and the work of writing it, cost at most this
pub record AtMost (m : Meaning) (w : Work) (c : Cost) : Type 0 where
  pub characters : length m.text ≤ c.characters
  pub pieces : w.pieces ≤ c.pieces
  pub buffered : w.held ≤ c.buffered

joined_at_most : (m k : Meaning) (w v : Work) (c d : Cost) → AtMost m w c → AtMost k v d
    → AtMost (chain m k) (or_stop m.fault w v) (then_cost c d)
joined_at_most m k w v c d h j = grind (arith, length-append)

-- ---- items

-- items, each with the join before it
abbrev after_cost : ℕ → (item join : Cost) → Cost
after_cost n item join = record {
  characters = n * item.characters + n * join.characters;
  pieces = n * item.pieces + n * join.pieces;
  buffered = max item.buffered join.buffered;
}

-- more items cost more
more_items : (n most item join : ℕ) → suc n ≤ most
    → item + (n * item + n * join) ≤ most * item + (most - 1) * join
more_items n most item join h = grind arith

module _ {A : Type 0} (P : A → Type 0) (join : Meaning) (joins : Work) (joined_by : Cost)
    (item : A → Meaning) (each : A → Work) (one : Cost)
    (join_costs : AtMost join joins joined_by)
    (item_costs : (x : A) → P x → AtMost (item x) (each x) one) where
  after_at_most : (xs : List A) → Each P xs
      → AtMost (items_after join item xs) (work_after join joins item each xs)
      (after_cost (length xs) one joined_by)
  after_at_most [] h = omega arith
  after_at_most (x ∷ xs) h =
      grind (arith, length-append, join_costs, item_costs x h.0, after_at_most xs h.1)

  items_at_most : (xs : List A) → Each P xs → (most : ℕ) → length xs ≤ most
      → AtMost (items_mean join item xs) (items_work join joins item each xs)
      (items_cost most one joined_by)
  items_at_most [] h most l = omega arith
  items_at_most (x ∷ xs) h most l =
      let characters = more_items (length xs) most one.characters joined_by.characters l in
      let pieces = more_items (length xs) most one.pieces joined_by.pieces l in
      grind (arith, length-append, item_costs x h.0, after_at_most xs h.1)

  padded_at_most : (spec : Spec) (q : ℕ) (xs : List A) → Each P xs → (most : ℕ) → length xs ≤ most
      → AtMost (padded_list spec q (items_mean join item xs))
      (chosen_work join joins item each spec.width xs)
      (padded_cost spec.width (items_cost most one joined_by))
  padded_at_most spec q xs h most l =
      grind (arith, length-map, padded_text_count, items_at_most xs h most l)

  listed_at_most : (limit : ℕ) (range : Option Range) (spec : Spec) (q : ℕ) (o : Option (List A))
      → ((xs : List A) → o ≡ Some xs → Each P xs × (length xs ≤ limit))
      → AtMost (listed_means range spec q join item o)
      (piece_and (listed_work join joins item each range spec o))
      (then_cost (piece_cost 0)
      (padded_cost spec.width (items_cost (most_chosen limit range) one joined_by)))
  listed_at_most limit range spec q None h = omega arith
  listed_at_most limit range spec q (Some xs) h =
      let within = h xs refl in
      grind (
        arith,
        padded_at_most spec q (chosen_items range xs)
            (each_chosen P range xs within.0) (most_chosen limit range)
            (chosen_fewer limit range xs within.1),
      )

-- ---- values within limits

module _ {X : Type 0} (shows : X → Trait → Spec → Shown) (limits : Limits) where
  abbrev Slotted : Slots X → Type 0
  Slotted tree = SlotsWithin shows limits.text limits.items tree

  abbrev Found : Option (Slots X) → Type 0
  Found o = FoundWithin shows limits.text limits.items o

  abbrev Within : Environment X → List (List ℕ) → Type 0
  Within e names = IsWithin shows limits.text limits.items e names

  values_within : (tree : Slots X) → Slotted tree
      → ValuesWithin shows limits.text limits.items (values_of tree)
  values_within tree h = grind arith

  each_listed : (others : SlotsList X) → ItemsWithin shows limits.text limits.items others
      → Each Slotted (slots_listed others)
  each_listed no_slots h = tt
  each_listed (slots_and tree others) h = (h.0, each_listed others h.1)

  items_within : (tree : Slots X) → Slotted tree → (ts : List (Slots X)) → items tree ≡ Some ts
      → Each Slotted ts × (length ts ≤ limits.items)
  items_within tree h ts e = grind (arith, each_listed)

  -- ---- names

  within_parts : (e : Environment X) (xs ys : List (List ℕ)) → Within e (xs ++ ys)
      → Within e xs × Within e ys
  within_parts e [] ys h = (tt, h)
  within_parts e (x ∷ xs) ys h = let parts = within_parts e xs ys h.1 in ((h.0, parts.0), parts.1)

  -- in an item format the item is under the empty name
  within_bound : (e : Environment X) (tree : Slots X) (names : List (List ℕ)) → Slotted tree
      → Within e names → Within (bind e tree) names
  within_bound e tree [] k h = tt
  within_bound e tree ([] ∷ names) k h = (k, within_bound e tree names k h.1)
  within_bound e tree ((c ∷ cs) ∷ names) k h =
      grind (arith, bound_same, within_bound e tree names k h.1)

  -- there the empty name is not among the names that are looked up
  abbrev Inner : (in_item : Bool) → Environment X → Type 0
  Inner true e = Found (slots_under e [])
  Inner false e = ⊤

  -- ---- one piece

  slot_at_most : (t : Trait) (spec : Spec) (q : ℕ) (o : Option X)
      → SlotWithin shows limits.text limits.items t o
      → AtMost (value_means shows t spec q o) (piece_and no_work) (value_cost limits t spec)
  slot_at_most t spec q o h = grind (arith, length-map, view_within)

  module _ (join : Meaning) (joins : Work) (joined_by : Cost) (one : Cost)
      (join_costs : AtMost join joins joined_by) where
    found_at_most : (what : Target) (start : ℕ) (name : List ℕ) (spec : Spec) (q : ℕ)
        (item : Slots X → Meaning) (each : Slots X → Work)
        → ((x : Slots X) → Slotted x → AtMost (item x) (each x) one) → (o : Option (Slots X))
        → Found o
        → AtMost (under_name name start (target_means shows what spec q join item) o)
        (piece_and (under_work (target_work shows what spec join joins item each) o))
        (content_cost limits (argument_content start name spec what q) one joined_by)
    found_at_most what start name spec q item each i None h = grind arith
    found_at_most (target_value t) start name spec q item each i (Some found) h =
        slot_at_most t spec q (slot_at t (values_of found)) (values_within found h t)
    found_at_most (target_list range) start name spec q item each i (Some found) h =
        listed_at_most Slotted join joins joined_by item each one join_costs i limits.items range
        spec q (items found) (items_within found h)

  length-placed : (p : ℕ) (cs : List ℕ) → length (placed_from p cs) ≡ length cs
  length-placed p [] = refl
  length-placed p (c ∷ cs) = grind (arith, length-placed (p + len_utf8 c) cs)

  content_at_most : (e : Environment X) (kind : PieceKind) (held : Content) (in_item : Bool)
      (join : Meaning) (joins : Work) (joined_by one : Cost) (item : ℕ → Slots X → Meaning)
      (each : ℕ → Slots X → Work) → Inner in_item e → Within e (content_names in_item (Some held))
      → AtMost join joins joined_by
      → ((q : ℕ) (x : Slots X) → Slotted x → AtMost (item q x) (each q x) one)
      → AtMost (content_means shows e kind held join item)
      (content_work shows e held join joins item each) (content_cost limits held one joined_by)
  content_at_most e kind (argument_content start name spec what q) in_item join joins joined_by one item each
      b h j i =
      grind (
        arith,
        length-append,
        found_at_most join joins joined_by one j what start name spec q (item q) (each q) (i q)
            (slots_under e name) (grind arith),
      )
  content_at_most e kind held in_item join joins joined_by one item each b h j i =
      grind (arith, length-placed)

  -- ---- with its groups

  mutual
    node_at_most : (x : Node) (in_item : Bool) (e : Environment X) → Inner in_item e
        → Within e (node_asks in_item x)
        → AtMost (node_means shows e x) (node_work shows e x) (node_cost limits x)
    node_at_most (node place end kind None item join) in_item e b h = omega arith
    node_at_most (node place end kind (Some held) item join) in_item e b h =
        let own = within_parts e (content_names in_item (Some held)) _ h in
        let groups = within_parts e (branch_asks true item) _ own.1 in
        content_at_most e kind held in_item _ _ _ _ _ _ b own.0
        (join_at_most join in_item e b groups.1) (λ q x k. item_at_most item e q x k groups.0)

    join_at_most : (x : Branch) (in_item : Bool) (e : Environment X) → Inner in_item e
        → Within e (branch_asks in_item x)
        → AtMost (join_branch_means shows e x) (join_branch_work shows e x)
        (join_branch_cost limits x)
    join_at_most no_branch in_item e b h = omega arith
    join_at_most (branch xs) in_item e b h = forest_at_most xs in_item e b h

    item_at_most : (x : Branch) (e : Environment X) (q : ℕ) (found : Slots X) → Slotted found
        → Within e (branch_asks true x)
        → AtMost (item_branch_means shows e x q found) (item_branch_work shows e x q found)
        (item_branch_cost limits x)
    item_at_most no_branch e q found k h =
        slot_at_most traits.Display plain_spec q _ (values_within found k traits.Display)
    item_at_most (branch xs) e q found k h =
        let all = forest_at_most xs true (bind e found) k (within_bound e found _ k h) in
        omega (arith, all)

    forest_at_most : (xs : Forest) (in_item : Bool) (e : Environment X) → Inner in_item e
        → Within e (forest_asks in_item xs)
        → AtMost (forest_means shows e xs) (forest_work shows e xs) (forest_cost limits xs)
    forest_at_most no_nodes in_item e b h = omega arith
    forest_at_most (nodes_and x xs) in_item e b h =
        let parts = within_parts e (node_asks in_item x) _ h in
        joined_at_most _ _ _ _ _ _ (node_at_most x in_item e b parts.0)
        (forest_at_most xs in_item e b parts.1)

  -- ---- a text

  pub text_at_most : (e : Environment X) (a : At) → Within e (asked_names a)
      → AtMost (means shows e a) (text_work shows e a) (text_cost limits a)
  text_at_most e a h = search (rules, forest_at_most)

-- a count that is reported below the greatest `usize` is exact
pub reported_exactly : (n count : ℕ) → n ≤ count → usize_count count ≢ 2 ^ 64 - 1 → n ≤ usize_count count
reported_exactly n count h k = grind arith

-- ---- no memory

-- whatever is found, no memory is taken, but for a missing value
-- the fault of a missing value
abbrev is_missing : Option Fault → Bool
is_missing (Some (missing_value name place)) = true
is_missing _ = false

abbrev Unheld : Meaning → Type 0
Unheld m = is_missing m.fault ≡ false → m.memory_points ≡ []

not_missing : (o : Option Fault) → ((name : List ℕ) (place : ℕ) → o ≢ Some (missing_value name place))
    → is_missing o ≡ false
not_missing (Some (missing_value name place)) n = absurd (n name place refl)
not_missing _ n = refl

unheld_joined : (m k : Meaning) → Unheld m → Unheld k → Unheld (chain m k)
unheld_joined m k h j = grind arith

module _ {A : Type 0} (join : Meaning) (item : A → Meaning) (joins : Unheld join)
    (each : (x : A) → Unheld (item x)) where
  unheld_after : (xs : List A) → Unheld (items_after join item xs)
  unheld_after [] = λ e. refl
  unheld_after (x ∷ xs) = grind (arith, unheld_joined, unheld_after xs)

  unheld_items : (xs : List A) → Unheld (items_mean join item xs)
  unheld_items xs = grind (arith, unheld_joined, unheld_after)

-- the items of a list are not held
no_width : (width : Option ℕ) (c : Cost) → (then_cost (piece_cost 0) (padded_cost width c)).buffered ≡ 0
    → (width ≡ None) × (c.buffered ≡ 0)
no_width width c h = grind arith

module _ {X : Type 0} (shows : X → Trait → Spec → Shown) (limits : Limits) where
  unheld_slot : (t : Trait) (spec : Spec) (q : ℕ) (o : Option X)
      → Unheld (value_means shows t spec q o)
  unheld_slot t spec q o = grind arith

  unheld_held : (e : Environment X) (kind : PieceKind) (held : Content) (join : Meaning)
      (item : ℕ → Slots X → Meaning) (one joined_by : Cost)
      → (content_cost limits held one joined_by).buffered ≡ 0
      → (joined_by.buffered ≡ 0 → Unheld join)
      → ((q : ℕ) (x : Slots X) → one.buffered ≡ 0 → Unheld (item q x))
      → Unheld (content_means shows e kind held join item)
  unheld_held e kind (argument_content start name spec (target_list range) q) join item one joined_by h j i =
      grind (arith, no_width, unheld_items)
  unheld_held e kind held join item one joined_by h j i = grind (arith, unheld_slot)

  mutual
    unheld_node : (x : Node) (e : Environment X) → (node_cost limits x).buffered ≡ 0
        → Unheld (node_means shows e x)
    unheld_node (node place end kind None item join) e h = λ n. refl
    unheld_node (node place end kind (Some held) item join) e h =
        unheld_held e kind held _ _ _ _ h (unheld_join join e) (λ q x z. unheld_item item e q z x)

    unheld_join : (x : Branch) (e : Environment X) → (join_branch_cost limits x).buffered ≡ 0
        → Unheld (join_branch_means shows e x)
    unheld_join no_branch e h = λ n. refl
    unheld_join (branch xs) e h = unheld_forest xs e h

    unheld_item : (x : Branch) (e : Environment X) (q : ℕ)
        → (item_branch_cost limits x).buffered ≡ 0 → (found : Slots X)
        → Unheld (item_branch_means shows e x q found)
    unheld_item no_branch e q h found =
        unheld_slot traits.Display plain_spec q _
    unheld_item (branch xs) e q h found = unheld_forest xs (bind e found) h

    unheld_forest : (xs : Forest) (e : Environment X) → (forest_cost limits xs).buffered ≡ 0
        → Unheld (forest_means shows e xs)
    unheld_forest no_nodes e h = λ n. refl
    unheld_forest (nodes_and x xs) e h =
        unheld_joined _ _ (unheld_node x e (omega (arith, h))) (unheld_forest xs e (omega (arith, h)))

  pub no_memory_taken : (e : Environment X) (a : At) → (text_cost limits a).buffered ≡ 0
      → ((name : List ℕ) (place : ℕ) → (means shows e a).fault ≢ Some (missing_value name place))
      → (means shows e a).memory_points ≡ []
  no_memory_taken e a h n = unheld_forest (as_forest (nodes a)) e h (not_missing _ n)

-- ---- greater limits

pub record LeCost (c d : Cost) : Type 0 where
  pub characters : c.characters ≤ d.characters
  pub pieces : c.pieces ≤ d.pieces
  pub buffered : c.buffered ≤ d.buffered

repeated_le : (n m a b c d : ℕ) → n ≤ m → a ≤ b → c ≤ d
    → n * a + (n - 1) * c ≤ m * b + (m - 1) * d
repeated_le n m a b c d h k l = grind arith

list_le : (width : Option ℕ) (n m : ℕ) (a b c d : Cost) → n ≤ m → LeCost a b → LeCost c d
    → LeCost (then_cost (piece_cost 0) (padded_cost width (items_cost n a c)))
    (then_cost (piece_cost 0) (padded_cost width (items_cost m b d)))
list_le width n m a b c d h k l =
    let characters = repeated_le n m _ _ _ _ h k.characters l.characters in
    let pieces = repeated_le n m _ _ _ _ h k.pieces l.pieces in grind (arith, k, l)

module _ (few many : Limits) (text : few.text ≤ many.text) (more : few.items ≤ many.items) where
  value_le : (t : Trait) (spec : Spec) → LeCost (value_cost few t spec) (value_cost many t spec)
  value_le t spec = omega (arith, written_grows t spec few.text many.text text)

  content_le : (h : Content) (a b c d : Cost) → LeCost a b → LeCost c d
      → LeCost (content_cost few h a c) (content_cost many h b d)
  content_le (text_content from cs) a b c d i j = omega arith
  content_le (argument_content start name spec (target_value t) q) a b c d i j = value_le t spec
  content_le (argument_content start name spec (target_list range) q) a b c d i j =
      list_le spec.width _ _ a b c d (chosen_grows few.items many.items more range) i j
  content_le (fault_content f) a b c d i j = omega arith

  mutual
    node_le : (x : Node) → LeCost (node_cost few x) (node_cost many x)
    node_le (node place end kind None item join) = omega arith
    node_le (node place end kind (Some held) item join) =
        content_le held _ _ _ _ (item_le item) (join_le join)

    item_le : (x : Branch) → LeCost (item_branch_cost few x) (item_branch_cost many x)
    item_le no_branch = value_le traits.Display plain_spec
    item_le (branch xs) = omega (arith, forest_le xs)

    join_le : (x : Branch) → LeCost (join_branch_cost few x) (join_branch_cost many x)
    join_le no_branch = omega arith
    join_le (branch xs) = forest_le xs

    forest_le : (xs : Forest) → LeCost (forest_cost few xs) (forest_cost many xs)
    forest_le no_nodes = omega arith
    forest_le (nodes_and x xs) = omega (arith, node_le x, forest_le xs)

  pub text_le : (a : At) → LeCost (text_cost few a) (text_cost many a)
  text_le a = forest_le (as_forest (nodes a))
