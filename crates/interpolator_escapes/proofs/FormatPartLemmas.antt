-- What a format means is its parts, and each value of them stands in a place.
use Rattle.std.proofs.Common.{◌≡◌, ℕ, Bool, true, false, List, [], ◌∷◌, ◌++◌, refl, ap, sym, ◌∙◌}
use Rattle.std.proofs.Common.{Option, Some, None, is_some, replicate, arith, flat_map, append-nil}
use Rattle.std.proofs.Common.{if◌then◌else◌, inl}
use Rattle.std.proofs.{lemmas.List.map-append, lemmas.List.Concat.flat_map-append}
use Rattle.std.specs.Float.{float_is_finite}
use Rattle.interpolator_render.specs.declared.view.Trait.{Trait}
use Rattle.interpolator_render.specs.declared.view.Trait.TheVariants as traits
use Rattle.interpolator_render.specs.Texts.{ViewText, has_text, has_no_text, has_failed, view_text}
use Rattle.interpolator_render.specs.Views.{Shown, signed_number, unsigned_number, truth_value}
use Rattle.interpolator_render.specs.Views.{decimal_number, float_number, one_character, some_text}
use Rattle.interpolator_render.specs.Views.{plain_text, nothing_implemented, failure}
use Rattle.interpolator_render.specs.{declared.view.Spec.Spec, Padding.fill_of, Padding.padded_text}
use Rattle.interpolator_syntax.specs.Nodes.{Node, node, Branch, no_branch, branch, as_forest}
use Rattle.interpolator_syntax.specs.Nodes.{Forest, no_nodes, nodes_and, nodes, text_content}
use Rattle.interpolator_syntax.specs.Nodes.{argument_content, fault_content, target_value}
use Rattle.interpolator_syntax.specs.Nodes.{target_list}
use Rattle.interpolator_syntax.specs.{Places.At, Places.text_of, Faults.Fault, SpecTexts.plain_spec}
use Rattle.interpolator_syntax.specs.declared.piece_kind.PieceKind.{PieceKind}
use Rattle.interpolator_syntax.specs.declared.piece_kind.PieceKind.TheVariants as kinds
use Rattle.interpolator_syntax.specs.declared.range.Range.{Range}
use Rattle.interpolator_eval.specs.Slots.{Slots, values_of, items, slot_at}
use Rattle.interpolator_eval.specs.Meaning.Choices.{chosen_items}
use Rattle.interpolator_eval.specs.Meaning.Environments.{Environment, slots_under, bind}
use Rattle.interpolator_eval.specs.Meaning.Meanings.{Meaning, nothing, chain, or_fault, value_means}
use Rattle.interpolator_eval.specs.Meaning.Meanings.{view_means, forbids_list, buffered_means}
use Rattle.interpolator_eval.specs.Meaning.Meanings.{padded_list, items_after, items_mean}
use Rattle.interpolator_eval.specs.Meaning.Meanings.{under_name, listed_means, and_closed}
use Rattle.interpolator_eval.specs.Meaning.Meanings.{node_means, join_branch_means}
use Rattle.interpolator_eval.specs.Meaning.Meanings.{item_branch_means, forest_means, means}
use Rattle.interpolator_escapes.specs.Escapes.{escape_of, json_escape}
use Rattle.interpolator_escapes.specs.Readers.{Token, state_after, read, KeepsPlaces, KeepsPlain}
use Rattle.interpolator_escapes.specs.Parts.{Part, literal, value, part_text, assembled, InPlaces}
use Rattle.interpolator_escapes.specs.Parts.{read_parts, MayStand}
use Rattle.interpolator_escapes.specs.Formats.{Stays, FillStays, NodeStands, ItemStands, JoinStands}
use Rattle.interpolator_escapes.specs.Formats.{ForestStands, Stands, escaped_shows}
use Rattle.interpolator_escapes.specs.FormatParts.{as_it_is, view_parts, found_parts, parts_after}
use Rattle.interpolator_escapes.specs.FormatParts.{items_parts, padded_parts, list_parts}
use Rattle.interpolator_escapes.specs.FormatParts.{value_parts, node_parts, join_parts, item_parts}
use Rattle.interpolator_escapes.specs.FormatParts.{forest_parts, parts_of, parts_by, plain_value}
use Rattle.interpolator_escapes.specs.FormatParts.{escaped_value, string_parts, whole_parts}
use Rattle.interpolator_escapes.specs.Wholes.{escaped_text, is_whole, json_null, json_string}
use Rattle.interpolator_escapes.specs.Wholes.{whole_text, whole_view}
use Rattle.interpolator_escapes.specs.declared.escape.Escape.{Escape}
use Rattle.interpolator_escapes.specs.declared.escape.Escape.TheVariants.{Line, Html, Csv, Json}
use Rattle.interpolator_escapes.specs.declared.escape.Escape.TheVariants.{Shell}
use Rattle.interpolator_escapes.proofs.FormatLemmas.{text_of_placed_at, text_of_placed_from}
use Rattle.interpolator_escapes.proofs.FormatLemmas.{copies_stay, fill_stays}
use Rattle.interpolator_escapes.proofs.{ReaderLemmas.parts_read, WholeLemmas.plain_shown}

-- ---- the text of a meaning

module _ (escape : ℕ → List ℕ) where
  abbrev Whole : List Part → List ℕ
  Whole parts = assembled escape parts

  pub whole-append : (ps qs : List Part) → Whole (ps ++ qs) ≡ Whole ps ++ Whole qs
  whole-append ps qs = flat_map-append (part_text escape) ps qs

  -- a meaning without a fault has the text of these parts
  record Says (m : Meaning) (ps : List Part) : Type 0 where
    text : m.fault ≡ None → text_of m.text ≡ Whole ps

  says_nothing : Says nothing []
  says_nothing = record { text = λ none. refl }

  says_fault : (m : Meaning) (ps : List Part) (f : Fault) → m.fault ≡ Some f → Says m ps
  says_fault m ps f e = record { text = λ none. absurd (cc) }

  says_by : (m n : Meaning) (ps qs : List Part) (o : Option Fault) → m.fault ≡ o → Says m ps
      → Says n qs → Says (or_fault o m n) (ps ++ qs)
  says_by m n ps qs (Some f) e h j = says_fault _ _ f e
  says_by m n ps qs None e h j = record {
    text = λ none.
        rw (
          map-append (λ (x : ℕ × ℕ). x.0) m.text n.text,
          h.text e,
          j.text none,
          whole-append ps qs,
        ) refl;
  }

  says_both : (m n : Meaning) (ps qs : List Part) → Says m ps → Says n qs
      → Says (chain m n) (ps ++ qs)
  says_both m n ps qs h j = says_by m n ps qs m.fault refl h j

  padded_whole : (spec : Spec) (ps : List Part)
      → Whole (padded_parts escape spec ps) ≡ padded_text spec (Whole ps)
  unfolding padded_text
  padded_whole spec ps = rw (whole-append ps (literal _ ∷ []), append-nil (replicate _ _)) refl

  buffered_says : (spec : Spec) (q : ℕ) (m : Meaning) (ps : List Part) (o : Option Fault)
      → m.fault ≡ o → Says m ps
      → Says (buffered_means spec q o (text_of m.text)) (padded_parts escape spec ps)
  buffered_says spec q m ps (Some f) e h = says_fault _ _ f refl
  buffered_says spec q m ps None e h = record {
    text = λ none.
        rw (
          text_of_placed_at q (padded_text spec (text_of m.text)),
          h.text e,
          padded_whole spec ps,
        ) refl;
  }

  list_says : (spec : Spec) (q : ℕ) (m : Meaning) (ps : List Part) (b : Bool)
      → is_some spec.width ≡ b → Says m ps
      → Says (padded_list spec q m) (list_parts escape spec ps)
  list_says spec q m ps false e h = rw e h
  list_says spec q m ps true e h = rw e (buffered_says spec q m ps m.fault refl h)

  closed_says : (kind : PieceKind) (q : ℕ) (m : Meaning) (ps : List Part) → Says m ps
      → Says (and_closed kind q m) ps
  closed_says kinds.Unclosed q m ps h = record { text = λ none. absurd (grind arith) }
  closed_says kind q m ps h = h

  module _ {A : Type 0} (join : Meaning) (between : List Part) (item : A → Meaning)
      (each : A → List Part) (joins : Says join between) (says : (x : A) → Says (item x) (each x))
    where
      after_says : (xs : List A) → Says (items_after join item xs) (parts_after between each xs)
      after_says [] = says_nothing
      after_says (x ∷ xs) =
          says_both join _ between _ joins
          (says_both (item x) _ (each x) _ (says x) (after_says xs))

      items_say : (xs : List A) → Says (items_mean join item xs) (items_parts between each xs)
      items_say [] = says_nothing
      items_say (x ∷ xs) = says_both (item x) _ (each x) _ (says x) (after_says xs)

  -- what a value shows has the text of its parts
  module _ {X : Type 0} (of_value : X → Trait → Spec → List Part)
      (shows : X → Trait → Spec → Shown)
      (each : (x : X) (t : Trait) (spec : Spec) (q : ℕ)
      → Says (view_means t q (view_text (shows x t spec) t spec)) (of_value x t spec))
    where
      value_says : (t : Trait) (spec : Spec) (q : ℕ) (o : Option X)
          → Says (value_means shows t spec q o) (value_parts escape of_value t spec o)
      value_says t spec q None = says_fault _ _ _ refl
      value_says t spec q (Some x) = each x t spec q

      listed_says : (range : Option Range) (spec : Spec) (q : ℕ) (join : Meaning)
          (between : List Part) (item : Slots X → Meaning) (of_item : Slots X → List Part)
          (o : Option (List (Slots X))) (b : Bool) → forbids_list spec ≡ b → Says join between
          → ((x : Slots X) → Says (item x) (of_item x))
          → Says (listed_means range spec q join item o)
          (found_parts
          (λ xs. list_parts escape spec (items_parts between of_item (chosen_items range xs))) o)
      listed_says range spec q join between item of_item None b e joins say =
          says_fault _ _ _ refl
      listed_says range spec q join between item of_item (Some xs) true e joins say =
          rw e (says_fault _ _ _ refl)
      listed_says range spec q join between item of_item (Some xs) false e joins say =
          rw e (list_says spec q (items_mean join item (chosen_items range xs))
          (items_parts between of_item (chosen_items range xs)) (is_some spec.width) refl
          (items_say join between item of_item joins say (chosen_items range xs)))

      found_says : (name : List ℕ) (start : ℕ) (m : Slots X → Meaning) (ps : Slots X → List Part)
          (o : Option (Slots X)) → ((x : Slots X) → Says (m x) (ps x))
          → Says (under_name name start m o) (found_parts ps o)
      found_says name start m ps None h = says_fault _ _ _ refl
      found_says name start m ps (Some x) h = h x

      mutual
        node_says : (x : Node) (e : Environment X)
            → Says (node_means shows e x) (node_parts escape of_value e x)
        node_says (node place end kind None item join) e = says_nothing
        node_says (node place end kind (Some (text_content from cs)) item join) e =
            record { text = λ none. text_of_placed_from cs from ∙ sym (append-nil cs) }
        node_says (node place end kind (Some (fault_content f)) item join) e =
            says_fault _ _ f refl
        node_says (node place end kind (Some (argument_content start name spec (target_value w) q))
            item join) e =
            closed_says kind q _ _ (found_says name start _ _ (slots_under e name)
            (λ x. value_says w spec q (slot_at w (values_of x))))
        node_says (node place end kind (Some (argument_content start name spec (target_list range)
            q)) item join) e =
            closed_says kind q _ _ (found_says name start _ _ (slots_under e name)
            (λ x. listed_says range spec q _ _ _ _ (items x) (forbids_list spec) refl
            (join_says join e) (λ y. item_says item e q y)))

        join_says : (b : Branch) (e : Environment X)
            → Says (join_branch_means shows e b) (join_parts escape of_value e b)
        join_says no_branch e = says_nothing
        join_says (branch xs) e = forest_says xs e

        item_says : (b : Branch) (e : Environment X) (q : ℕ) (x : Slots X)
            → Says (item_branch_means shows e b q x) (item_parts escape of_value e b x)
        item_says no_branch e q x =
            value_says traits.Display plain_spec q (slot_at traits.Display (values_of x))
        item_says (branch xs) e q x = forest_says xs (bind e x)

        forest_says : (xs : Forest) (e : Environment X)
            → Says (forest_means shows e xs) (forest_parts escape of_value e xs)
        forest_says no_nodes e = says_nothing
        forest_says (nodes_and x xs) e =
            says_both (node_means shows e x) _ _ _ (node_says x e) (forest_says xs e)

  view_escaped : (v : ViewText) (t : Trait) (spec : Spec) (q : ℕ)
      → Says (view_means t q (view_text (escaped_text escape v) t spec)) (view_parts v)
  unfolding view_text
  view_escaped (has_text cs) t spec q = record {
    text = λ none.
        text_of_placed_at q (flat_map escape cs) ∙ sym (append-nil (flat_map escape cs));
  }
  view_escaped has_no_text t spec q = says_fault _ _ _ refl
  view_escaped has_failed t spec q = says_fault _ _ _ refl

-- ---- of an escaped format

text_says : (text : List ℕ) (ps : List Part) (t : Trait) (spec : Spec) (q : ℕ)
    → assembled json_escape ps ≡ text
    → Says json_escape (view_means t q (view_text (plain_text text) t spec)) ps
text_says text ps t spec q e =
    rw (plain_shown text t spec) (record { text = λ none. text_of_placed_at q text ∙ sym e })

float_says : (shown : Shown) (t : Trait) (spec : Spec) (q : ℕ) (b : Bool)
    → Says json_escape
    (view_means t q (view_text (whole_view (if b then None else Some json_null) shown spec) t spec))
    (if b then view_parts (view_text shown traits.Debug spec) else value json_null ∷ [])
float_says shown t spec q true =
    view_escaped json_escape (view_text shown traits.Debug spec) t spec q
float_says shown t spec q false = text_says json_null (value json_null ∷ []) t spec q refl

-- a whole value has the text of its parts
whole_says : (shown : Shown) (t : Trait) (spec : Spec) (q : ℕ)
    → Says json_escape
    (view_means t q (view_text (whole_view (whole_text shown) shown spec) t spec))
    (whole_parts shown spec)
whole_says (some_text text) t spec q = text_says (json_string text) (string_parts text) t spec q refl
whole_says (plain_text text) t spec q =
    text_says (json_string text) (string_parts text) t spec q refl
whole_says (one_character c) t spec q =
    text_says (json_string (c ∷ [])) (string_parts (c ∷ [])) t spec q refl
whole_says (float_number format x) t spec q =
    float_says (float_number format x) t spec q (float_is_finite x)
whole_says (signed_number z bits) t spec q =
    view_escaped json_escape (view_text (signed_number z bits) traits.Debug spec) t spec q
whole_says (unsigned_number n) t spec q =
    view_escaped json_escape (view_text (unsigned_number n) traits.Debug spec) t spec q
whole_says (truth_value truth) t spec q =
    view_escaped json_escape (view_text (truth_value truth) traits.Debug spec) t spec q
whole_says (decimal_number units scale) t spec q =
    view_escaped json_escape (view_text (decimal_number units scale) traits.Debug spec) t spec q
whole_says nothing_implemented t spec q =
    view_escaped json_escape (view_text nothing_implemented traits.Debug spec) t spec q
whole_says failure t spec q =
    view_escaped json_escape (view_text failure traits.Debug spec) t spec q

shown_says : (escape : Escape) (shown : Shown) (t : Trait) (spec : Spec) (q : ℕ) (b : Bool)
    → is_whole escape t ≡ b
    → Says (escape_of escape)
    (view_means t q (view_text (if b then whole_view (whole_text shown) shown spec
    else escaped_text (escape_of escape) (view_text shown t spec)) t spec))
    (if b then whole_parts shown spec else view_parts (view_text shown t spec))
shown_says escape shown t spec q false e =
    view_escaped (escape_of escape) (view_text shown t spec) t spec q
shown_says Json shown t spec q true e = whole_says shown t spec q
shown_says Line shown t spec q true e = absurd (cc)
shown_says Html shown t spec q true e = absurd (cc)
shown_says Csv shown t spec q true e = absurd (cc)
shown_says Shell shown t spec q true e = absurd (cc)

-- the text of an escaped format is its parts, each value escaped
pub escaped_parts : (escape : Escape) {X : Type 0} (shows : X → Trait → Spec → Shown)
    (e : Environment X) (a : At) → (means (escaped_shows escape shows) e a).fault ≡ None
    → text_of (means (escaped_shows escape shows) e a).text
    ≡ assembled (escape_of escape) (parts_by escape shows e a)
escaped_parts escape shows e a =
    (forest_says (escape_of escape) (escaped_value escape shows) (escaped_shows escape shows)
    (λ x t spec q. shown_says escape (shows x t spec) t spec q (is_whole escape t) refl)
    (as_forest (nodes a)) e).text

-- ---- of a plain format

flat_as_it_is : (cs : List ℕ) → flat_map as_it_is cs ≡ cs
flat_as_it_is [] = refl
flat_as_it_is (c ∷ cs) = ap (λ ds. c ∷ ds) (flat_as_it_is cs)

view_plain : (v : ViewText) (t : Trait) (q : ℕ) → Says as_it_is (view_means t q v) (view_parts v)
view_plain (has_text cs) t q = record {
  text = λ none.
      rw (text_of_placed_at q cs, append-nil (flat_map as_it_is cs)) (sym (flat_as_it_is cs));
}
view_plain has_no_text t q = says_fault as_it_is _ _ _ refl
view_plain has_failed t q = says_fault as_it_is _ _ _ refl

pub plain_parts : {X : Type 0} (shows : X → Trait → Spec → Shown) (e : Environment X) (a : At)
    → (means shows e a).fault ≡ None
    → text_of (means shows e a).text
    ≡ assembled as_it_is (parts_of as_it_is (plain_value shows) e a)
plain_parts shows e a =
    (forest_says as_it_is (plain_value shows) shows
    (λ x t spec q. view_plain (view_text (shows x t spec) t spec) t q) (as_forest (nodes a)) e).text

-- ---- places

module _ {S : Type 0} (step : S → ℕ → S × List Token) (is_place : S → Trait → Spec → Bool) where
  abbrev Held : S → List Part → Type 0
  Held s ps = InPlaces step is_place s ps

  -- where the reader is after parts: values leave it where it is
  abbrev after_parts : S → List Part → S
  after_parts s [] = s
  after_parts s (literal cs ∷ ps) = after_parts (state_after step s cs) ps
  after_parts s (value cs ∷ ps) = after_parts s ps

  -- each value stands in a place, if the reader is at s before the parts; it is at t after them
  pub record Leads (s t : S) (ps : List Part) : Type 0 where
    pub held : Held s ps
    pub end : after_parts s ps ≡ t

  leads_nothing : (s : S) → Leads s s []
  leads_nothing s = record { held = tt; end = refl }

  stays_by : (s t : S) → t ≡ s → Leads s t []
  stays_by s t h = record { held = tt; end = sym h }

  leads_held : (s t u : S) (ps qs : List Part) → Held s ps → after_parts s ps ≡ t → Leads t u qs
      → Leads s u (ps ++ qs)
  leads_held s t u [] qs h e j = rw e j
  leads_held s t u (literal cs ∷ ps) qs h e j =
      let rest = leads_held (state_after step s cs) t u ps qs h e j in
      record { held = rest.held; end = rest.end }
  leads_held s t u (value cs ∷ ps) qs h e j =
      let rest = leads_held s t u ps qs h.1 e j in
      record { held = (h.0, rest.held); end = rest.end }

  leads_both : (s t u : S) (ps qs : List Part) → Leads s t ps → Leads t u qs → Leads s u (ps ++ qs)
  leads_both s t u ps qs h j = leads_held s t u ps qs h.held h.end j

  leads_fill : (s : S) (c n : ℕ) → Stays step s (c ∷ []) → Leads s s (literal (replicate n c) ∷ [])
  leads_fill s c n h = record { held = tt; end = (copies_stay step is_place s c n h).0 }

  leads_between : (s : S) (c n m : ℕ) (ps : List Part) → Stays step s (c ∷ []) → Leads s s ps
      → Leads s s (literal (replicate n c) ∷ (ps ++ literal (replicate m c) ∷ []))
  leads_between s c n m ps fill h =
      leads_both s s s (literal (replicate n c) ∷ []) (ps ++ literal (replicate m c) ∷ [])
      (leads_fill s c n fill)
      (leads_both s s s ps (literal (replicate m c) ∷ []) h (leads_fill s c m fill))

  module _ (escape : ℕ → List ℕ) where
    leads_padded : (s : S) (spec : Spec) (ps : List Part) → Stays step s (fill_of spec ∷ [])
        → Leads s s ps → Leads s s (padded_parts escape spec ps)
    leads_padded s spec ps fill h = leads_between s (fill_of spec) _ _ ps fill h

    leads_list : (s : S) (spec : Spec) (ps : List Part) (b : Bool) → is_some spec.width ≡ b
        → FillStays step s spec spec.width → Leads s s ps → Leads s s (list_parts escape spec ps)
    leads_list s spec ps false e fill h = rw e h
    leads_list s spec ps true e fill h =
        rw e (leads_padded s spec ps (fill_stays step is_place s spec spec.width fill e) h)

    module _ {A : Type 0} (s : S) (between : List Part) (each : A → List Part)
        (joins : Leads s s between) (leads : (x : A) → Leads s s (each x)) where
      after_leads : (xs : List A) → Leads s s (parts_after between each xs)
      after_leads [] = leads_nothing s
      after_leads (x ∷ xs) =
          leads_both s s s between _ joins (leads_both s s s (each x) _ (leads x) (after_leads xs))

      items_lead : (xs : List A) → Leads s s (items_parts between each xs)
      items_lead [] = leads_nothing s
      items_lead (x ∷ xs) = leads_both s s s (each x) _ (leads x) (after_leads xs)

    found_leads : {A : Type 0} (s : S) (ps : A → List Part) (o : Option A)
        → ((x : A) → Leads s s (ps x)) → Leads s s (found_parts ps o)
    found_leads s ps None h = leads_nothing s
    found_leads s ps (Some x) h = h x

    module _ {X : Type 0} (of_value : X → Trait → Spec → List Part)
        (each : (x : X) (t : Trait) (spec : Spec) (s : S) → is_place s t spec ≡ true
        → Leads s s (of_value x t spec))
      where
        value_leads : (s : S) (t : Trait) (spec : Spec) (o : Option X) → is_place s t spec ≡ true
            → Leads s s (value_parts escape of_value t spec o)
        value_leads s t spec o h = found_leads s _ o (λ x. each x t spec s h)

        mutual
          node_leads : (x : Node) (e : Environment X) (s t : S) → NodeStands step is_place s x t
              → Leads s t (node_parts escape of_value e x)
          node_leads (node place end kind None item join) e s t h = stays_by s t h
          node_leads (node place end kind (Some (text_content from cs)) item join) e s t h =
              record { held = tt; end = sym h }
          node_leads (node place end kind (Some (fault_content f)) item join) e s t h =
              stays_by s t h
          node_leads (node place end kind (Some (argument_content start name spec (target_value w) q))
              item join) e s t h =
              rw h.1 (found_leads s _ (slots_under e name)
              (λ x. value_leads s w spec (slot_at w (values_of x)) h.0))
          node_leads (node place end kind (Some (argument_content start name spec (target_list range)
              q)) item join) e s t h =
              rw h.3 (found_leads s _ (slots_under e name) (λ x. found_leads s _ (items x)
              (λ xs. leads_list s spec
              (items_parts (join_parts escape of_value e join) (item_parts escape of_value e item)
              (chosen_items range xs)) (is_some spec.width) refl h.2
              (items_lead s (join_parts escape of_value e join) (item_parts escape of_value e item)
              (join_leads join e s h.1) (λ y. item_leads item e s y h.0)
              (chosen_items range xs)))))

          join_leads : (b : Branch) (e : Environment X) (s : S) → JoinStands step is_place s b
              → Leads s s (join_parts escape of_value e b)
          join_leads no_branch e s h = leads_nothing s
          join_leads (branch xs) e s h = forest_leads xs e s s h

          item_leads : (b : Branch) (e : Environment X) (s : S) (x : Slots X)
              → ItemStands step is_place s b → Leads s s (item_parts escape of_value e b x)
          item_leads no_branch e s x h =
              value_leads s traits.Display plain_spec (slot_at traits.Display (values_of x)) h
          item_leads (branch xs) e s x h = forest_leads xs (bind e x) s s h

          forest_leads : (xs : Forest) (e : Environment X) (s t : S)
              → ForestStands step is_place s xs t → Leads s t (forest_parts escape of_value e xs)
          forest_leads no_nodes e s t h = stays_by s t h
          forest_leads (nodes_and x xs) e s t h =
              leads_both s h.0 t _ _ (node_leads x e s h.0 h.1) (forest_leads xs e h.0 t h.2)

  -- a text leads to where it was, if it may stand there
  pub view_leads : (s : S) (v : ViewText)
      → ((cs : List ℕ) → v ≡ has_text cs → MayStand is_place s cs) → Leads s s (view_parts v)
  view_leads s (has_text cs) h = record { held = (h cs refl, tt); end = refl }
  view_leads s has_no_text h = leads_nothing s
  view_leads s has_failed h = leads_nothing s

  -- so the values come back, each in its place
  module _ (escape : Escape) (keeps : KeepsPlaces step is_place (escape_of escape))
      (plain : KeepsPlain step is_place (escape_of escape))
      (inner : (s : S) (t : Trait) (spec : Spec) → is_whole escape t ≡ false
      → is_place s t spec ≡ true → is_place s traits.Display plain_spec ≡ true)
      (whole : (shown : Shown) (s : S) (t : Trait) (spec : Spec) → is_whole escape t ≡ true
      → is_place s t spec ≡ true → Leads s s (whole_parts shown spec))
    where
      shown_leads : (shown : Shown) (t : Trait) (spec : Spec) (s : S) (b : Bool)
          → is_whole escape t ≡ b → is_place s t spec ≡ true
          → Leads s s (if b then whole_parts shown spec else view_parts (view_text shown t spec))
      shown_leads shown t spec s true w h = whole shown s t spec w h
      shown_leads shown t spec s false w h =
          view_leads s (view_text shown t spec) (λ cs e. inl (inner s t spec w h))

      pub format_read : {X : Type 0} (shows : X → Trait → Spec → Shown) (e : Environment X) (a : At)
          (s t : S) → Stands step is_place s a t
          → (means (escaped_shows escape shows) e a).fault ≡ None
          → read step s (text_of (means (escaped_shows escape shows) e a).text)
          ≡ read_parts step s (parts_by escape shows e a)
      format_read shows e a s t h none =
          rw (escaped_parts escape shows e a none)
          (parts_read step is_place (escape_of escape) keeps plain s (parts_by escape shows e a)
          (forest_leads (escape_of escape) (escaped_value escape shows)
          (λ x t spec s h. shown_leads (shows x t spec) t spec s (is_whole escape t) refl h)
          (as_forest (nodes a)) e s t h).held)
