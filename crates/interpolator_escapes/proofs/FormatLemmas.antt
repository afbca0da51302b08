-- The structure of what a format means is that of the format.
use Rattle.std.proofs.Common.{◌≡◌, ℕ, Bool, true, false, List, [], ◌∷◌, ◌++◌, refl, ap, arith}
use Rattle.std.proofs.Common.{Option, Some, None, is_some, replicate, zero, suc, ◌+◌}
use Rattle.std.proofs.Common.{flat_map, if◌then◌else◌}
use Rattle.std.proofs.lemmas.List.{map-append}
use Rattle.std.specs.Char.{len_utf8}
use Rattle.interpolator_render.specs.declared.view.Trait.{Trait}
use Rattle.interpolator_render.specs.declared.view.Trait.TheVariants as traits
use Rattle.interpolator_render.specs.Padding.{fill_of, padded_text}
use Rattle.interpolator_render.specs.Texts.{ViewText, has_text, has_no_text, has_failed, view_text}
use Rattle.interpolator_render.specs.{declared.view.Spec.Spec, Views.Shown}
use Rattle.interpolator_syntax.specs.Nodes.{Node, node, Branch, no_branch, branch, as_forest}
use Rattle.interpolator_syntax.specs.Nodes.{Forest, no_nodes, nodes_and, nodes, text_content}
use Rattle.interpolator_syntax.specs.Nodes.{argument_content, fault_content, target_value}
use Rattle.interpolator_syntax.specs.Nodes.{target_list}
use Rattle.interpolator_syntax.specs.{Places.At, Places.text_of, Places.placed_at}
use Rattle.interpolator_syntax.specs.{Places.placed_from, Faults.Fault}
use Rattle.interpolator_syntax.specs.{SpecTexts.plain_spec, declared.piece_kind.PieceKind.PieceKind}
use Rattle.interpolator_syntax.specs.declared.piece_kind.PieceKind.TheVariants as kinds
use Rattle.interpolator_syntax.specs.declared.range.Range.{Range}
use Rattle.interpolator_eval.specs.Slots.{Slots, values_of, items, slot_at}
use Rattle.interpolator_eval.specs.Meaning.Choices.{chosen_items}
use Rattle.interpolator_eval.specs.Meaning.Environments.{Environment, slots_under, bind}
use Rattle.interpolator_eval.specs.Meaning.Meanings.{Meaning, nothing, chain, or_fault, value_means}
use Rattle.interpolator_eval.specs.Meaning.Meanings.{view_means, forbids_list, buffered_means}
use Rattle.interpolator_eval.specs.Meaning.Meanings.{padded_list, items_after, items_mean}
use Rattle.interpolator_eval.specs.Meaning.Meanings.{under_name, listed_means, and_closed}
use Rattle.interpolator_eval.specs.Meaning.Meanings.{node_means, join_branch_means}
use Rattle.interpolator_eval.specs.Meaning.Meanings.{item_branch_means, forest_means, means}
use Rattle.interpolator_escapes.specs.Readers.{Token, structure_of, state_after, read, KeepsPlaces}
use Rattle.interpolator_escapes.specs.Readers.{KeepsPlain}
use Rattle.interpolator_escapes.specs.Formats.{shows_nothing, Stays, StayInPlaces, FillStays}
use Rattle.interpolator_escapes.specs.Formats.{NodeStands, ItemStands, JoinStands, ForestStands}
use Rattle.interpolator_escapes.specs.Formats.{Stands, escaped_shows, structure_from}
use Rattle.interpolator_escapes.specs.Wholes.{escaped_text, is_whole, whole_text, whole_view}
use Rattle.interpolator_escapes.specs.{Escapes.escape_of, Parts.MayStand}
use Rattle.interpolator_escapes.specs.declared.escape.Escape.{Escape}
use Rattle.interpolator_escapes.proofs.ReaderLemmas.{structure-append, state-append, read-append}
use Rattle.interpolator_escapes.proofs.ReaderLemmas.{value_state, value_read, structure-content}

pub text_of_placed_at : (q : ℕ) (cs : List ℕ) → text_of (placed_at q cs) ≡ cs
text_of_placed_at q [] = refl
text_of_placed_at q (c ∷ cs) = ap (λ ds. c ∷ ds) (text_of_placed_at q cs)

pub text_of_placed_from : (cs : List ℕ) (p : ℕ) → text_of (placed_from p cs) ≡ cs
text_of_placed_from [] p = refl
text_of_placed_from (c ∷ cs) p = ap (λ ds. c ∷ ds) (text_of_placed_from cs (p + len_utf8 c))

module _ {S : Type 0} (step : S → ℕ → S × List Token) (is_place : S → Trait → Spec → Bool) where
  abbrev After : S → List ℕ → S
  After s cs = state_after step s cs

  abbrev Marks : S → List ℕ → List ℕ
  Marks s cs = structure_of (read step s cs)

  marks-append : (s : S) (xs ys : List ℕ) → Marks s (xs ++ ys) ≡ Marks s xs ++ Marks (After s xs) ys
  marks-append s xs ys =
      rw (read-append step s xs ys) (structure-append (read step s xs) (read step (After s xs) ys))

  -- two texts take a reader from s to t, and have the same structure
  record SameText (s t : S) (xs ys : List ℕ) : Type 0 where
    first : After s xs ≡ t
    second : After s ys ≡ t
    marks : Marks s xs ≡ Marks s ys

  text_joined : (s t u : S) (xs ys vs ws : List ℕ) → SameText s t xs ys → SameText t u vs ws
      → SameText s u (xs ++ vs) (ys ++ ws)
  text_joined s t u xs ys vs ws h k = record {
    first = rw (state-append step s xs vs, h.first) k.first;
    second = rw (state-append step s ys ws, h.second) k.second;
    marks = rw (marks-append s xs vs, marks-append s ys ws, h.first, h.second, h.marks, k.marks)
        refl;
  }

  stays_same : (s : S) (cs : List ℕ) → Stays step s cs → SameText s s cs []
  stays_same s cs h = record { first = h.0; second = refl; marks = h.1 }

  itself : (s : S) (cs : List ℕ) → SameText s (After s cs) cs cs
  itself s cs = record { first = refl; second = refl; marks = refl }

  pub copies_stay : (s : S) (c n : ℕ) → Stays step s (c ∷ []) → Stays step s (replicate n c)
  copies_stay s c zero h = (refl, refl)
  copies_stay s c (suc n) h =
      let rest = copies_stay s c n h in
      let whole = state-append step s (c ∷ []) (replicate n c) in
      let all = marks-append s (c ∷ []) (replicate n c) in
      (rw (whole, h.0) rest.0, rw (all, h.0, h.1) rest.1)

  fills_same : (s : S) (c n m : ℕ) → Stays step s (c ∷ [])
      → SameText s s (replicate n c) (replicate m c)
  fills_same s c n m h =
      let x = copies_stay s c n h in
      let y = copies_stay s c m h in
      record { first = x.0; second = y.0; marks = rw (x.1, y.1) refl }

  -- ---- meanings

  -- a meaning without fault and another, which has none either, have texts of the same structure
  abbrev Same : S → S → Meaning → Meaning → Type 0
  Same s t m k = m.fault ≡ None → (k.fault ≡ None) × SameText s t (text_of m.text) (text_of k.text)

  faulty : (s t : S) (f : Fault) (m k : Meaning) → m.fault ≡ Some f → Same s t m k
  faulty s t f m k e h = absurd (cc)

  same_nothing : (s : S) → Same s s nothing nothing
  same_nothing s h = (refl, itself s [])

  joined_by : (s t u : S) (m k n l : Meaning) (o : Option Fault) → m.fault ≡ o → Same s t m k
      → Same t u n l → Same s u (or_fault o m n) (chain k l)
  joined_by s t u m k n l (Some f) e h j none = absurd (cc)
  joined_by s t u m k n l None e h j none =
      let first = h e in
      let second = j none in
      rw first.0 (
        second.0,
        rw (
          map-append (λ (x : ℕ × ℕ). x.0) m.text n.text,
          map-append (λ (x : ℕ × ℕ). x.0) k.text l.text,
        )
            (text_joined s t u (text_of m.text) (text_of k.text) (text_of n.text) (text_of l.text)
            first.1 second.1),
      )

  same_joined : (s t u : S) (m k n l : Meaning) → Same s t m k → Same t u n l
      → Same s u (chain m n) (chain k l)
  same_joined s t u m k n l h j = joined_by s t u m k n l m.fault refl h j

  module _ {A : Type 0} (s : S) (join none : Meaning) (item empty : A → Meaning)
      (joins : Same s s join none) (each : (x : A) → Same s s (item x) (empty x)) where
    after_same : (xs : List A) → Same s s (items_after join item xs) (items_after none empty xs)
    after_same [] = same_nothing s
    after_same (x ∷ xs) =
        same_joined s s s join none _ _ joins
        (same_joined s s s (item x) (empty x) _ _ (each x) (after_same xs))

    items_same : (xs : List A) → Same s s (items_mean join item xs) (items_mean none empty xs)
    items_same [] = same_nothing s
    items_same (x ∷ xs) = same_joined s s s (item x) (empty x) _ _ (each x) (after_same xs)

  padded_same : (s : S) (spec : Spec) (xs ys : List ℕ) → Stays step s (fill_of spec ∷ [])
      → SameText s s xs ys → SameText s s (padded_text spec xs) (padded_text spec ys)
  unfolding padded_text
  padded_same s spec xs ys fill h =
      let c = fill_of spec in
      text_joined s s s (replicate _ c) (replicate _ c) _ _ (fills_same s c _ _ fill)
      (text_joined s s s xs ys (replicate _ c) (replicate _ c) h (fills_same s c _ _ fill))

  buffered_same : (s : S) (spec : Spec) (q : ℕ) (m k : Meaning) (o : Option Fault) → m.fault ≡ o
      → Stays step s (fill_of spec ∷ []) → Same s s m k
      → Same s s (buffered_means spec q o (text_of m.text))
      (buffered_means spec q k.fault (text_of k.text))
  buffered_same s spec q m k (Some f) e fill h none = absurd (cc)
  buffered_same s spec q m k None e fill h none =
      let same = h e in
      rw same.0 (
        refl,
        rw (
          text_of_placed_at q (padded_text spec (text_of m.text)),
          text_of_placed_at q (padded_text spec (text_of k.text)),
        )
            (padded_same s spec (text_of m.text) (text_of k.text) fill same.1),
      )

  pub fill_stays : (s : S) (spec : Spec) (width : Option ℕ) → FillStays step s spec width
      → is_some width ≡ true → Stays step s (fill_of spec ∷ [])
  fill_stays s spec None h e = absurd (cc)
  fill_stays s spec (Some width) h e = h

  list_same : (s : S) (spec : Spec) (q : ℕ) (m k : Meaning) (b : Bool) → is_some spec.width ≡ b
      → FillStays step s spec spec.width → Same s s m k
      → Same s s (padded_list spec q m) (padded_list spec q k)
  list_same s spec q m k false e fill h = rw e h
  list_same s spec q m k true e fill h =
      rw e (buffered_same s spec q m k m.fault refl (fill_stays s spec spec.width fill e) h)

  closed_same : (s : S) (kind : PieceKind) (q : ℕ) (m k : Meaning) → Same s s m k
      → Same s s (and_closed kind q m) (and_closed kind q k)
  closed_same s kinds.Unclosed q m k h = λ none. absurd (grind arith)
  closed_same s kind q m k h = h

  module _ {X : Type 0} (shows : X → Trait → Spec → Shown) (stay : StayInPlaces step is_place shows)
    where
      abbrev Empty : X → Trait → Spec → Shown
      Empty = shows_nothing

      view_same : (s : S) (t : Trait) (q : ℕ) (text : ViewText)
          → ((cs : List ℕ) → text ≡ has_text cs → Stays step s cs)
          → Same s s (view_means t q text) (view_means t q (has_text []))
      view_same s t q (has_text cs) h none =
          (refl, rw (text_of_placed_at q cs) (stays_same s cs (h cs refl)))
      view_same s t q has_no_text h none = absurd (cc)
      view_same s t q has_failed h none = absurd (cc)

      value_same : (s : S) (t : Trait) (spec : Spec) (q : ℕ) (o : Option X)
          → is_place s t spec ≡ true
          → Same s s (value_means shows t spec q o) (value_means Empty t spec q o)
      unfolding view_text
      value_same s t spec q None h = λ none. absurd (cc)
      value_same s t spec q (Some x) h =
          view_same s t q (view_text (shows x t spec) t spec) (λ cs e. stay x t spec cs s e h)

      listed_same : (s : S) (range : Option Range) (spec : Spec) (q : ℕ) (join none : Meaning)
          (item empty : Slots X → Meaning) (o : Option (List (Slots X))) (b : Bool)
          → forbids_list spec ≡ b → FillStays step s spec spec.width
          → Same s s join none → ((x : Slots X) → Same s s (item x) (empty x))
          → Same s s (listed_means range spec q join item o)
          (listed_means range spec q none empty o)
      listed_same s range spec q join none item empty None b e fill joins each = λ h. absurd (cc)
      listed_same s range spec q join none item empty (Some xs) true e fill joins each =
          rw e (λ h. absurd (cc))
      listed_same s range spec q join none item empty (Some xs) false e fill joins each =
          rw e (list_same s spec q (items_mean join item (chosen_items range xs))
          (items_mean none empty (chosen_items range xs)) (is_some spec.width) refl fill
          (items_same s join none item empty joins each (chosen_items range xs)))

      found_same : (s : S) (name : List ℕ) (start : ℕ) (m k : Slots X
          → Meaning) (o : Option (Slots X))
          → ((x : Slots X) → Same s s (m x) (k x))
          → Same s s (under_name name start m o) (under_name name start k o)
      found_same s name start m k None h = λ none. absurd (cc)
      found_same s name start m k (Some x) h = h x

      mutual
        node_same : (x : Node) (e : Environment X) (s t : S) → NodeStands step is_place s x t
            → Same s t (node_means shows e x) (node_means Empty e x)
        node_same (node place end kind None item join) e s t h = rw h (same_nothing s)
        node_same (node place end kind (Some (text_content from cs)) item join) e s t h =
            rw h (λ none. (refl, rw (text_of_placed_from cs from) (itself s cs)))
        node_same (node place end kind (Some (fault_content f)) item join) e s t h =
            λ none. absurd (cc)
        node_same (node place end kind (Some (argument_content start name spec (target_value w) q))
            item join) e s t h =
            rw h.1 (closed_same s kind q _ _ (found_same s name start _ _ (slots_under e name)
            (λ x. value_same s w spec q (slot_at w (values_of x)) h.0)))
        node_same (node place end kind (Some (argument_content start name spec (target_list range)
            q))
            item join) e s t h =
            rw h.3 (closed_same s kind q _ _ (found_same s name start _ _ (slots_under e name)
            (λ x. listed_same s range spec q _ _ _ _ (items x) (forbids_list spec) refl h.2
            (join_same join e s h.1) (λ y. item_same item e s q y h.0))))

        join_same : (b : Branch) (e : Environment X) (s : S) → JoinStands step is_place s b
            → Same s s (join_branch_means shows e b) (join_branch_means Empty e b)
        join_same no_branch e s h = same_nothing s
        join_same (branch xs) e s h = forest_same xs e s s h

        item_same : (b : Branch) (e : Environment X) (s : S) (q : ℕ) (x : Slots X)
            → ItemStands step is_place s b
            → Same s s (item_branch_means shows e b q x) (item_branch_means Empty e b q x)
        item_same no_branch e s q x h =
            value_same s traits.Display plain_spec q (slot_at traits.Display (values_of x)) h
        item_same (branch xs) e s q x h = forest_same xs (bind e x) s s h

        forest_same : (xs : Forest) (e : Environment X) (s t : S)
            → ForestStands step is_place s xs t
            → Same s t (forest_means shows e xs) (forest_means Empty e xs)
        forest_same no_nodes e s t h = rw h (same_nothing s)
        forest_same (nodes_and x xs) e s t h =
            same_joined s h.0 t _ _ _ _ (node_same x e s h.0 h.1) (forest_same xs e h.0 t h.2)

      pub same_structure : (e : Environment X) (a : At) (s t : S) → Stands step is_place s a t
          → (means shows e a).fault ≡ None
          → Marks s (text_of (means shows e a).text) ≡ Marks s (text_of (means Empty e a).text)
      same_structure e a s t h none = (forest_same (as_forest (nodes a)) e s t h none).1.marks

-- ---- escaped values

-- an escaped text leaves the reader in its place, and has no structure
module _ {S : Type 0} (step : S → ℕ → S × List Token) (is_place : S → Trait → Spec → Bool)
    (escape : ℕ → List ℕ) (keeps : KeepsPlaces step is_place escape)
    (plain : KeepsPlain step is_place escape) where
  pub text_quiet : (s : S) (ds : List ℕ) → MayStand is_place s ds
      → Stays step s (flat_map escape ds)
  text_quiet s ds h = (
    value_state step is_place escape keeps plain s ds h,
    rw (value_read step is_place escape keeps plain s ds h) (structure-content ds),
  )

  pub view_quiet : (text : ViewText) (t : Trait) (spec : Spec) (cs : List ℕ) (s : S)
      → ((ds : List ℕ) → text ≡ has_text ds → MayStand is_place s ds)
      → view_text (escaped_text escape text) t spec ≡ has_text cs → Stays step s cs
  unfolding view_text
  view_quiet (has_text ds) t spec cs s h e =
      let same : flat_map escape ds ≡ cs = cc in rw (← same) (text_quiet s ds (h ds refl))
  view_quiet has_no_text t spec cs s h e = absurd (cc)
  view_quiet has_failed t spec cs s h e = absurd (cc)

-- so do values, if those do whose characters are escaped, and those that are written whole
module _ {S : Type 0} (step : S → ℕ → S × List Token) (is_place : S → Trait → Spec → Bool)
    (escape : Escape)
    (quiet : (text : ViewText) (t : Trait) (spec : Spec) (cs : List ℕ) (s : S)
    → is_whole escape t ≡ false → is_place s t spec ≡ true
    → view_text (escaped_text (escape_of escape) text) t spec ≡ has_text cs → Stays step s cs)
    (whole : (shown : Shown) (t : Trait) (spec : Spec) (cs : List ℕ) (s : S)
    → is_whole escape t ≡ true → is_place s t spec ≡ true
    → view_text (whole_view (whole_text shown) shown spec) t spec ≡ has_text cs → Stays step s cs)
  where
    shown_stays : (shown : Shown) (t : Trait) (spec : Spec) (cs : List ℕ) (s : S) (b : Bool)
        → is_whole escape t ≡ b
        → view_text (if b then whole_view (whole_text shown) shown spec
        else escaped_text (escape_of escape) (view_text shown t spec)) t spec ≡ has_text cs
        → is_place s t spec ≡ true → Stays step s cs
    shown_stays shown t spec cs s true w e h = whole shown t spec cs s w h e
    shown_stays shown t spec cs s false w e h = quiet (view_text shown t spec) t spec cs s w h e

    shows_stay : {X : Type 0} (shows : X → Trait → Spec → Shown)
        → StayInPlaces step is_place (escaped_shows escape shows)
    shows_stay shows x t spec cs s e h =
        shown_stays (shows x t spec) t spec cs s (is_whole escape t) refl e h

    pub escaped_structure : {X : Type 0} (shows : X → Trait → Spec → Shown) (e : Environment X)
        (a : At) (s t : S) → Stands step is_place s a t
        → (means (escaped_shows escape shows) e a).fault ≡ None
        → structure_from step s (means (escaped_shows escape shows) e a)
        ≡ structure_from step s (means shows_nothing e a)
    escaped_structure shows e a s t h none =
        same_structure step is_place (escaped_shows escape shows) (shows_stay shows) e a s t h none
