-- What is read of a format of whole fields.
use Rattle.std.proofs.Common.{◌≡◌, ℕ, Bool, true, false, List, [], ◌∷◌, refl, ap, sym, ◌∙◌, Option}
use Rattle.std.proofs.Common.{Some, None, Result, Ok, Err, if◌then◌else◌, ◌&&◌, not}
use Rattle.interpolator_render.specs.declared.view.Trait.{Trait}
use Rattle.interpolator_render.specs.declared.view.Trait.TheVariants.{Display}
use Rattle.interpolator_render.specs.{declared.view.Spec.Spec, Texts.view_text, Views.Shown}
use Rattle.interpolator_syntax.specs.Places.{At, text_of}
use Rattle.interpolator_syntax.specs.Nodes.{Node, node, Branch, no_branch, branch, as_forest}
use Rattle.interpolator_syntax.specs.Nodes.{Forest, no_nodes, nodes_and, nodes, text_content}
use Rattle.interpolator_syntax.specs.Nodes.{argument_content, fault_content, target_value}
use Rattle.interpolator_syntax.specs.Nodes.{target_list}
use Rattle.interpolator_syntax.specs.{SpecTexts.plain_spec, declared.range.Range.Range}
use Rattle.interpolator_eval.specs.Slots.{Slots, values_of, items, slot_at}
use Rattle.interpolator_eval.specs.Meaning.Choices.{chosen_items}
use Rattle.interpolator_eval.specs.Meaning.Environments.{Environment, slots_under, bind}
use Rattle.interpolator_eval.specs.Meaning.Meanings.{Meaning, value_means, under_name, forbids_list}
use Rattle.interpolator_eval.specs.Meaning.Meanings.{items_after, items_mean, listed_means}
use Rattle.interpolator_eval.specs.Meaning.Meanings.{join_branch_means, item_branch_means}
use Rattle.interpolator_eval.specs.Meaning.Meanings.{node_means, forest_means, means}
use Rattle.interpolator_escapes.specs.Csv.{field_start, bare, quoted, quote_seen}
use Rattle.interpolator_escapes.specs.Fields.{record_shows, record_value, record_view}
use Rattle.interpolator_escapes.specs.FormatParts.{as_it_is, found_parts, forest_parts, node_parts}
use Rattle.interpolator_escapes.specs.FormatParts.{value_parts, view_parts, item_parts, join_parts}
use Rattle.interpolator_escapes.specs.FormatParts.{items_parts, list_parts, parts_after}
use Rattle.interpolator_escapes.specs.Plain.{is_bare, is_debug}
use Rattle.interpolator_escapes.specs.RecordFormats.{Spot, in_state, field_end, after_value}
use Rattle.interpolator_escapes.specs.RecordFormats.{after_node, after_forest, after_item}
use Rattle.interpolator_escapes.specs.RecordFormats.{after_join, covers, item_end, join_end}
use Rattle.interpolator_escapes.specs.RecordFormats.{list_end, and_then, fields_read, record_values}
use Rattle.interpolator_escapes.specs.RecordFormats.{record_parts, misplaced_at, misplaced_by}
use Rattle.interpolator_escapes.specs.RecordFormats.{StandsAsRecord}
use Rattle.interpolator_escapes.specs.declared.misplaced.Why.TheVariants.{Item, Join}
use Rattle.interpolator_escapes.specs.{Formats.shows_nothing, Parts.Part, Readers.structure_of}
use Rattle.interpolator_escapes.specs.declared.misplaced.Misplaced.{Misplaced}
use Rattle.interpolator_escapes.proofs.RecordPassLemmas.{Passes, passes_nothing, passes_to}
use Rattle.interpolator_escapes.proofs.RecordPassLemmas.{literal_passes, Same, same_joined}
use Rattle.interpolator_escapes.proofs.RecordPassLemmas.{closed_same, Shows, inner_shows}
use Rattle.interpolator_escapes.proofs.RecordPassLemmas.{field_shows}
use Rattle.interpolator_escapes.proofs.{FieldLemmas.Reads, FormatLemmas.text_of_placed_from}
use Rattle.interpolator_escapes.proofs.WholeLemmas.{plain_shown}

-- ---- by where a record is

both_true : (a b : Bool) → (a && b) ≡ true → (a ≡ true) × (b ≡ true)
both_true true true e = (refl, refl)
both_true false b e = absurd (cc)
both_true true false e = absurd (cc)

-- where a field begins, under debug
begun : (place : ℕ) (t : Trait) (spec : Spec) (q : ℕ) (shown : Shown) (b : Bool) (u : Spot)
    → (is_debug t && is_bare spec) ≡ b
    → (if b then Ok (field_end place) else misplaced_at place) ≡ Ok u
    → Shows (in_state field_start) u t spec q (record_view shown t spec)
    (view_parts (record_value shown t spec))
begun place t spec q shown false u e h = absurd (cc)
begun place t spec q shown true u e h =
    let same : field_end place ≡ u = cc in
    let is = both_true (is_debug t) (is_bare spec) e in
    rw (← same, is.0) (field_shows place t spec q shown is.1)

-- between quotes, not under debug
within : (place : ℕ) (t : Trait) (spec : Spec) (q : ℕ) (shown : Shown) (b : Bool) (u : Spot)
    → is_debug t ≡ b
    → (if not b then Ok (in_state quoted) else misplaced_at place) ≡ Ok u
    → Shows (in_state quoted) u t spec q (record_view shown t spec)
    (view_parts (record_value shown t spec))
within place t spec q shown true u e h = absurd (cc)
within place t spec q shown false u e h =
    let same : in_state quoted ≡ u = cc in
    rw (← same, e) (inner_shows t spec q (view_text shown t spec))

value_shows : (place : ℕ) (s u : Spot) (t : Trait) (spec : Spec) (q : ℕ) (shown : Shown)
    → after_value place s t spec ≡ Ok u
    → Shows s u t spec q (record_view shown t spec) (view_parts (record_value shown t spec))
value_shows place (in_state field_start) u t spec q shown h =
    begun place t spec q shown (is_debug t && is_bare spec) u refl h
value_shows place (in_state quoted) u t spec q shown h =
    within place t spec q shown (is_debug t) u refl h
value_shows place (in_state bare) u t spec q shown h = absurd (cc)
value_shows place (in_state quote_seen) u t spec q shown h = absurd (cc)
value_shows place (field_end before) u t spec q shown h = absurd (cc)

-- ---- lists

module _ {A : Type 0} (s t u : Spot) (join none : Meaning) (item empty : A → Meaning)
    (between : List Part) (each : A → List Part) (back : covers s u ≡ true)
    (joins : Same t u join none between) (items : (x : A) → Same s t (item x) (empty x) (each x))
  where
    join_back : Same t s join none between
    join_back ok =
        let h = joins ok in
        (h.0, passes_to t u s (text_of join.text) (text_of none.text) between back h.1)

    after_same : (xs : List A)
        → Same t t (items_after join item xs) (items_after none empty xs)
        (parts_after between each xs)
    after_same [] = λ ok. (refl, passes_nothing t)
    after_same (x ∷ xs) =
        same_joined t s t join none _ _ between _ join_back
        (same_joined s t t (item x) (empty x) _ _ (each x) _ (items x) (after_same xs))

    items_same : (xs : List A) → covers t s ≡ true
        → Same s t (items_mean join item xs) (items_mean none empty xs)
        (items_parts between each xs)
    items_same [] over = λ ok. (refl, passes_to s s t [] [] [] over (passes_nothing s))
    items_same (x ∷ xs) over =
        same_joined s t t (item x) (empty x) _ _ (each x) _ (items x) (after_same xs)

listed_same : {A : Type 0} (s t u : Spot) (range : Option Range) (spec : Spec) (q : ℕ)
    (join none : Meaning) (item empty : A → Meaning) (between : List Part) (each : A → List Part)
    (o : Option (List A)) (b : Bool) → forbids_list spec ≡ b → spec.width ≡ None
    → covers t s ≡ true → covers s u ≡ true → Same t u join none between
    → ((x : A) → Same s t (item x) (empty x) (each x))
    → Same s t (listed_means range spec q join item o) (listed_means range spec q none empty o)
    (found_parts (λ xs. list_parts as_it_is spec (items_parts between each (chosen_items range xs)))
    o)
listed_same s t u range spec q join none item empty between each None b e w over back joins items =
    λ ok. absurd (cc)
listed_same s t u range spec q join none item empty between each (Some xs) true e w over back joins
    items =
    rw e (λ ok. absurd (cc))
listed_same s t u range spec q join none item empty between each (Some xs) false e w over back
    joins items =
    rw (e, w) (items_same s t u join none item empty between each back joins items
    (chosen_items range xs) over)

-- ---- formats

then_ok : (r : Result Spot Misplaced) (next : Spot → Result Spot Misplaced) (t : Spot)
    → and_then r next ≡ Ok t → (u : Spot) × (r ≡ Ok u) × (next u ≡ Ok t)
then_ok (Ok u) next t h = (u, refl, h)
then_ok (Err m) next t h = absurd (cc)

item_ok : (place : ℕ) (s t u : Spot) (b : Bool) → covers t s ≡ b
    → (if b then Ok t else misplaced_by place Item) ≡ Ok u
    → (covers u s ≡ true) × (t ≡ u)
item_ok place s t u true e h = let same : t ≡ u = cc in (rw (← same) e, same)
item_ok place s t u false e h = absurd (cc)

join_ok : (place : ℕ) (s t v u : Spot) (b : Bool) → covers s v ≡ b
    → (if b then Ok t else misplaced_by place Join) ≡ Ok u
    → (covers s v ≡ true) × (t ≡ u)
join_ok place s t v u true e h = (e, cc)
join_ok place s t v u false e h = absurd (cc)

list_ok : (place : ℕ) (o : Option ℕ) (t u : Spot) → list_end place o t ≡ Ok u
    → (o ≡ None) × (t ≡ u)
list_ok place None t u h = (refl, cc)
list_ok place (Some width) t u h = absurd (cc)

-- where the items of a list that stands end, and what is between two
record ListGoes (place : ℕ) (s u : Spot) (spec : Spec) (item join : Branch) : Type 0 where
  next : Spot
  items : after_item place s item ≡ Ok u
  joins : after_join u join ≡ Ok next
  over : covers u s ≡ true
  back : covers s next ≡ true
  narrow : spec.width ≡ None

list_goes : (place : ℕ) (s u : Spot) (spec : Spec) (item join : Branch)
    → and_then (and_then (after_item place s item) (item_end place s))
    (λ t. and_then (and_then (after_join t join) (join_end place s t)) (list_end place spec.width))
    ≡ Ok u
    → ListGoes place s u spec item join
list_goes place s u spec item join h =
    let a = then_ok _ _ u h in
    let b = then_ok _ _ a.0 a.1 in
    let i = item_ok place s b.0 a.0 (covers b.0 s) refl b.2 in
    let c = then_ok _ _ u a.2 in
    let d = then_ok _ _ c.0 c.1 in
    let j = join_ok place s a.0 d.0 c.0 (covers s d.0) refl d.2 in
    let l = list_ok place spec.width c.0 u c.2 in
    let same : a.0 ≡ u = j.1 ∙ l.1 in
    record {
      next = d.0;
      items = b.1 ∙ ap Ok (i.1 ∙ same);
      joins = ap (λ t. after_join t join) (sym same) ∙ d.1;
      over = ap (λ t. covers t s) (sym same) ∙ i.0;
      back = j.0;
      narrow = l.0;
    }

module _ {X : Type 0} (shows : X → Trait → Spec → Shown) where
  abbrev Of : X → Trait → Spec → List Part
  Of = record_values shows

  abbrev Writes : X → Trait → Spec → Shown
  Writes = record_shows shows

  abbrev Empty : X → Trait → Spec → Shown
  Empty = shows_nothing

  slot_same : (place : ℕ) (s u : Spot) (t : Trait) (spec : Spec) (q : ℕ) (o : Option X)
      → after_value place s t spec ≡ Ok u
      → Same s u (value_means Writes t spec q o) (value_means Empty t spec q o)
      (value_parts as_it_is Of t spec o)
  slot_same place s u t spec q None h = λ none. absurd (cc)
  slot_same place s u t spec q (Some x) h =
      rw (plain_shown [] t spec) (value_shows place s u t spec q (shows x t spec) h)

  found_same : (s u : Spot) (name : List ℕ) (start : ℕ) (m k : Slots X → Meaning)
      (ps : Slots X → List Part) (o : Option (Slots X))
      → ((x : Slots X) → Same s u (m x) (k x) (ps x))
      → Same s u (under_name name start m o) (under_name name start k o) (found_parts ps o)
  found_same s u name start m k ps None h = λ none. absurd (cc)
  found_same s u name start m k ps (Some x) h = h x

  mutual
    node_same : (x : Node) (e : Environment X) (s t : Spot) → after_node s x ≡ Ok t
        → Same s t (node_means Writes e x) (node_means Empty e x) (node_parts as_it_is Of e x)
    node_same (node place end kind None item join) e s t h =
        let same : s ≡ t = cc in rw (← same) (λ none. (refl, passes_nothing s))
    node_same (node place end kind (Some (text_content from cs)) item join) e s t h =
        λ none. (refl, rw (text_of_placed_from cs from) (literal_passes s t cs h))
    node_same (node place end kind (Some (fault_content f)) item join) e s t h =
        λ none. absurd (cc)
    node_same (node place end kind (Some (argument_content start name spec (target_value w) q))
        item join) e s t h =
        closed_same s t kind q _ _ _ (found_same s t name start _ _ _ (slots_under e name)
        (λ x. slot_same place s t w spec q (slot_at w (values_of x)) h))
    node_same (node place end kind (Some (argument_content start name spec (target_list range) q))
        item join) e s t h =
        let g = list_goes place s t spec item join h in
        closed_same s t kind q _ _ _ (found_same s t name start _ _ _ (slots_under e name)
        (λ x. listed_same s t g.next range spec q _ _ _ _ _ _ (items x) (forbids_list spec) refl
        g.narrow g.over g.back (join_same join e t g.next g.joins)
        (λ y. item_same item e place s t q y g.items)))

    join_same : (b : Branch) (e : Environment X) (s t : Spot) → after_join s b ≡ Ok t
        → Same s t (join_branch_means Writes e b) (join_branch_means Empty e b)
        (join_parts as_it_is Of e b)
    join_same no_branch e s t h =
        let same : s ≡ t = cc in rw (← same) (λ none. (refl, passes_nothing s))
    join_same (branch xs) e s t h = forest_same xs e s t h

    item_same : (b : Branch) (e : Environment X) (place : ℕ) (s t : Spot) (q : ℕ) (x : Slots X)
        → after_item place s b ≡ Ok t
        → Same s t (item_branch_means Writes e b q x) (item_branch_means Empty e b q x)
        (item_parts as_it_is Of e b x)
    item_same no_branch e place s t q x h =
        slot_same place s t Display plain_spec q (slot_at Display (values_of x)) h
    item_same (branch xs) e place s t q x h = forest_same xs (bind e x) s t h

    forest_same : (xs : Forest) (e : Environment X) (s t : Spot) → after_forest s xs ≡ Ok t
        → Same s t (forest_means Writes e xs) (forest_means Empty e xs)
        (forest_parts as_it_is Of e xs)
    forest_same no_nodes e s t h =
        let same : s ≡ t = cc in rw (← same) (λ none. (refl, passes_nothing s))
    forest_same (nodes_and x xs) e s t h =
        let past = then_ok (after_node s x) (λ u. after_forest u xs) t h in
        same_joined s past.0 t _ _ _ _ _ _ (node_same x e s past.0 past.1)
        (forest_same xs e past.0 t past.2)

  module _ (e : Environment X) (a : At) (stands : StandsAsRecord a)
      (none : (means Writes e a).fault ≡ None) where
    abbrev whole : Passes (in_state field_start) stands.0 (text_of (means Writes e a).text)
        (text_of (means Empty e a).text) (record_parts shows e a)
    whole = (forest_same (as_forest (nodes a)) e (in_state field_start) stands.0 stands.1 none).1

    pub record_read : Reads field_start (text_of (means Writes e a).text)
        ≡ fields_read field_start (record_parts shows e a)
    record_read = whole.tokens field_start field_start refl refl

    pub record_marks : structure_of (Reads field_start (text_of (means Writes e a).text))
        ≡ structure_of (Reads field_start (text_of (means Empty e a).text))
    record_marks = ap structure_of record_read ∙ sym (whole.marks field_start field_start refl refl)
