-- An escape changes no fault.
use Rattle.std.proofs.Common.{◌≡◌, ℕ, Bool, true, false, List, [], ◌∷◌, refl, ap, sym, ◌∙◌, arith}
use Rattle.std.proofs.Common.{Option, Some, None, is_some, if◌then◌else◌}
use Rattle.std.specs.Float.{Float, Format, nan, inf, fin, float_is_finite}
use Rattle.interpolator_render.specs.declared.view.Trait.{Trait}
use Rattle.interpolator_render.specs.declared.view.Trait.TheVariants as traits
use Rattle.interpolator_render.specs.Texts.{ViewText, has_text, has_no_text, has_failed, view_text}
use Rattle.interpolator_render.specs.Texts.{padded_float}
use Rattle.interpolator_render.specs.Views.{Shown, signed_number, unsigned_number, truth_value}
use Rattle.interpolator_render.specs.Views.{decimal_number, float_number, one_character, some_text}
use Rattle.interpolator_render.specs.Views.{plain_text, nothing_implemented, failure}
use Rattle.interpolator_render.specs.{declared.view.Spec.Spec, Forms.float_body}
use Rattle.interpolator_syntax.specs.Nodes.{Node, node, Branch, no_branch, branch, as_forest}
use Rattle.interpolator_syntax.specs.Nodes.{Forest, no_nodes, nodes_and, nodes, text_content}
use Rattle.interpolator_syntax.specs.Nodes.{argument_content, fault_content, target_value}
use Rattle.interpolator_syntax.specs.Nodes.{target_list}
use Rattle.interpolator_syntax.specs.{Places.At, Places.text_of, Faults.Fault, SpecTexts.plain_spec}
use Rattle.interpolator_syntax.specs.declared.piece_kind.PieceKind.{PieceKind}
use Rattle.interpolator_syntax.specs.declared.piece_kind.PieceKind.TheVariants as kinds
use Rattle.interpolator_syntax.specs.declared.range.Range.{Range}
use Rattle.interpolator_eval.specs.Slots.{Slots, values_of, items, slot_at}
use Rattle.interpolator_eval.specs.Meaning.Choices.{chosen_items}
use Rattle.interpolator_eval.specs.Meaning.Environments.{Environment, slots_under, bind}
use Rattle.interpolator_eval.specs.Meaning.Meanings.{Meaning, chain, value_means, view_means}
use Rattle.interpolator_eval.specs.Meaning.Meanings.{forbids_list, buffered_means, padded_list}
use Rattle.interpolator_eval.specs.Meaning.Meanings.{items_after, items_mean, under_name}
use Rattle.interpolator_eval.specs.Meaning.Meanings.{listed_means, and_closed, node_means}
use Rattle.interpolator_eval.specs.Meaning.Meanings.{join_branch_means, item_branch_means}
use Rattle.interpolator_eval.specs.Meaning.Meanings.{forest_means, means}
use Rattle.interpolator_escapes.specs.Escapes.{csv_escape, escape_of, json_escape}
use Rattle.interpolator_escapes.specs.Fields.{field_text, field_view, record_shows}
use Rattle.interpolator_escapes.specs.Wholes.{escaped_text, is_whole, json_null, whole_text}
use Rattle.interpolator_escapes.specs.Wholes.{whole_view}
use Rattle.interpolator_escapes.specs.declared.escape.Escape.TheVariants.{Line, Html, Csv, Json}
use Rattle.interpolator_escapes.specs.declared.escape.Escape.TheVariants.{Shell}
use Rattle.interpolator_escapes.specs.{Formats.escaped_shows, Plain.is_debug}
use Rattle.interpolator_escapes.specs.declared.escape.Escape.{Escape}
use Rattle.interpolator_escapes.proofs.WholeLemmas.{plain_shown}

-- a text is there, or why it is not
abbrev without_text : ViewText → ViewText
without_text (has_text cs) = has_text []
without_text has_no_text = has_no_text
without_text has_failed = has_failed

abbrev SameFault : Meaning → Meaning → Type 0
SameFault m k = m.fault ≡ k.fault

chain_fault : (m k n l : Meaning) → SameFault m k → SameFault n l
    → SameFault (chain m n) (chain k l)
chain_fault m k n l h j = grind (arith, h, j)

view_fault : (t : Trait) (q : ℕ) (v : ViewText)
    → (view_means t q v).fault ≡ (view_means t q (without_text v)).fault
view_fault t q (has_text cs) = refl
view_fault t q has_no_text = refl
view_fault t q has_failed = refl

buffered_fault : (spec : Spec) (q : ℕ) (o : Option Fault) (cs ds : List ℕ)
    → (buffered_means spec q o cs).fault ≡ (buffered_means spec q o ds).fault
buffered_fault spec q (Some f) cs ds = refl
buffered_fault spec q None cs ds = refl

padded_by : (spec : Spec) (q : ℕ) (m k : Meaning) (b : Bool) → is_some spec.width ≡ b
    → SameFault m k → SameFault (padded_list spec q m) (padded_list spec q k)
padded_by spec q m k false e h = rw e h
padded_by spec q m k true e h =
    rw (e, h) (buffered_fault spec q k.fault (text_of m.text) (text_of k.text))

closed_fault : (kind : PieceKind) (q : ℕ) (m k : Meaning) → SameFault m k
    → SameFault (and_closed kind q m) (and_closed kind q k)
closed_fault kinds.Unclosed q m k h = chain_fault m k _ _ h refl
closed_fault kind q m k h = h

module _ {A : Type 0} (join none : Meaning) (item other : A → Meaning) (joins : SameFault join none)
    (each : (x : A) → SameFault (item x) (other x)) where
  after_fault : (xs : List A) → SameFault (items_after join item xs) (items_after none other xs)
  after_fault [] = refl
  after_fault (x ∷ xs) =
      chain_fault join none _ _ joins (chain_fault (item x) (other x) _ _ (each x) (after_fault xs))

  items_fault : (xs : List A) → SameFault (items_mean join item xs) (items_mean none other xs)
  items_fault [] = refl
  items_fault (x ∷ xs) = chain_fault (item x) (other x) _ _ (each x) (after_fault xs)

module _ {X : Type 0} (shows others : X → Trait → Spec → Shown)
    (alike : (x : X) (t : Trait) (spec : Spec)
    → without_text (view_text (shows x t spec) t spec)
    ≡ without_text (view_text (others x t spec) t spec))
  where
    value_fault : (t : Trait) (spec : Spec) (q : ℕ) (o : Option X)
        → SameFault (value_means shows t spec q o) (value_means others t spec q o)
    value_fault t spec q None = refl
    value_fault t spec q (Some x) =
        view_fault t q (view_text (shows x t spec) t spec)
        ∙ ap (λ v. (view_means t q v).fault) (alike x t spec)
        ∙ sym (view_fault t q (view_text (others x t spec) t spec))

    listed_fault : (range : Option Range) (spec : Spec) (q : ℕ) (join none : Meaning)
        (item other : Slots X → Meaning) (o : Option (List (Slots X))) (b : Bool)
        → forbids_list spec ≡ b → SameFault join none → ((x : Slots X)
        → SameFault (item x) (other x))
        → SameFault (listed_means range spec q join item o) (listed_means range spec q none other o)
    listed_fault range spec q join none item other None b e joins each = refl
    listed_fault range spec q join none item other (Some xs) true e joins each = rw e refl
    listed_fault range spec q join none item other (Some xs) false e joins each =
        rw e (padded_by spec q _ _ (is_some spec.width) refl
        (items_fault join none item other joins each (chosen_items range xs)))

    found_fault : (name : List ℕ) (start : ℕ) (m k : Slots X → Meaning) (o : Option (Slots X))
        → ((x : Slots X) → SameFault (m x) (k x))
        → SameFault (under_name name start m o) (under_name name start k o)
    found_fault name start m k None h = refl
    found_fault name start m k (Some x) h = h x

    mutual
      node_fault : (x : Node) (e : Environment X) → SameFault (node_means shows e x)
          (node_means others e x)
      node_fault (node place end kind None item join) e = refl
      node_fault (node place end kind (Some (text_content from cs)) item join) e = refl
      node_fault (node place end kind (Some (fault_content f)) item join) e = refl
      node_fault (node place end kind (Some (argument_content start name spec (target_value w) q))
          item join) e =
          closed_fault kind q _ _ (found_fault name start _ _ (slots_under e name)
          (λ x. value_fault w spec q (slot_at w (values_of x))))
      node_fault (node place end kind (Some (argument_content start name spec (target_list range)
          q)) item join) e =
          closed_fault kind q _ _ (found_fault name start _ _ (slots_under e name)
          (λ x. listed_fault range spec q _ _ _ _ (items x) (forbids_list spec) refl
          (join_fault join e) (λ y. item_fault item e q y)))

      join_fault : (b : Branch) (e : Environment X)
          → SameFault (join_branch_means shows e b) (join_branch_means others e b)
      join_fault no_branch e = refl
      join_fault (branch xs) e = forest_fault xs e

      item_fault : (b : Branch) (e : Environment X) (q : ℕ) (x : Slots X)
          → SameFault (item_branch_means shows e b q x) (item_branch_means others e b q x)
      item_fault no_branch e q x =
          value_fault traits.Display plain_spec q (slot_at traits.Display (values_of x))
      item_fault (branch xs) e q x = forest_fault xs (bind e x)

      forest_fault : (xs : Forest) (e : Environment X)
          → SameFault (forest_means shows e xs) (forest_means others e xs)
      forest_fault no_nodes e = refl
      forest_fault (nodes_and x xs) e = chain_fault _ _ _ _ (node_fault x e) (forest_fault xs e)

-- ---- what is written of a value

escaped_alike : (escape : ℕ → List ℕ) (v : ViewText) (t : Trait) (spec : Spec)
    → without_text (view_text (escaped_text escape v) t spec) ≡ without_text v
unfolding view_text
escaped_alike escape (has_text cs) t spec = refl
escaped_alike escape has_no_text t spec = refl
escaped_alike escape has_failed t spec = refl

-- a float has a text under debug
float_alike : (format : Format) (x : Float) (spec : Spec)
    → without_text (view_text (float_number format x) traits.Debug spec) ≡ has_text []
unfolding view_text
float_alike format x spec = of_body spec x spec.precision
  where
    of_body : (spec : Spec) (x : Float) (precision : Option ℕ)
        → without_text (padded_float spec x (float_body format traits.Debug precision x))
        ≡ has_text []
    of_body spec nan None = refl
    of_body spec nan (Some places) = refl
    of_body spec (inf s) None = refl
    of_body spec (inf s) (Some places) = refl
    of_body spec (fin s m e) None = refl
    of_body spec (fin s m e) (Some places) = refl

number_alike : (format : Format) (x : Float) (spec : Spec) (b : Bool)
    → without_text (view_text (whole_view (if b then None else Some json_null)
    (float_number format x) spec) traits.Debug spec)
    ≡ without_text (view_text (float_number format x) traits.Debug spec)
number_alike format x spec true =
    escaped_alike json_escape (view_text (float_number format x) traits.Debug spec) traits.Debug spec
number_alike format x spec false =
    ap without_text (plain_shown json_null traits.Debug spec) ∙ sym (float_alike format x spec)

debug_alike : (shown : Shown) (spec : Spec)
    → without_text (view_text (escaped_text json_escape (view_text shown traits.Debug spec))
    traits.Debug spec) ≡ without_text (view_text shown traits.Debug spec)
debug_alike shown spec =
    escaped_alike json_escape (view_text shown traits.Debug spec) traits.Debug spec

whole_alike : (shown : Shown) (spec : Spec)
    → without_text (view_text (whole_view (whole_text shown) shown spec) traits.Debug spec)
    ≡ without_text (view_text shown traits.Debug spec)
unfolding view_text
whole_alike (some_text text) spec = refl
whole_alike (plain_text text) spec = refl
whole_alike (one_character c) spec = refl
whole_alike (float_number format x) spec = number_alike format x spec (float_is_finite x)
whole_alike (signed_number z bits) spec = debug_alike (signed_number z bits) spec
whole_alike (unsigned_number n) spec = debug_alike (unsigned_number n) spec
whole_alike (truth_value truth) spec = debug_alike (truth_value truth) spec
whole_alike (decimal_number units scale) spec = debug_alike (decimal_number units scale) spec
whole_alike nothing_implemented spec = debug_alike nothing_implemented spec
whole_alike failure spec = debug_alike failure spec

pub debug_is : (escape : Escape) (t : Trait) → is_whole escape t ≡ true
    → (escape ≡ Json) × (t ≡ traits.Debug)
debug_is Json traits.Debug w = (refl, refl)
debug_is Json t w = absurd (cc)
debug_is Line t w = absurd (cc)
debug_is Html t w = absurd (cc)
debug_is Csv t w = absurd (cc)
debug_is Shell t w = absurd (cc)

shown_alike : (escape : Escape) (shown : Shown) (t : Trait) (spec : Spec) (b : Bool)
    → is_whole escape t ≡ b
    → without_text (view_text (if b then whole_view (whole_text shown) shown spec
    else escaped_text (escape_of escape) (view_text shown t spec)) t spec)
    ≡ without_text (view_text shown t spec)
shown_alike escape shown t spec true w =
    let is = debug_is escape t w in rw is.1 (whole_alike shown spec)
shown_alike escape shown t spec false w =
    escaped_alike (escape_of escape) (view_text shown t spec) t spec

pub escaped_fault : (escape : Escape) {X : Type 0} (shows : X → Trait → Spec → Shown)
    (e : Environment X) (a : At)
    → (means (escaped_shows escape shows) e a).fault ≡ (means shows e a).fault
escaped_fault escape shows e a =
    forest_fault (escaped_shows escape shows) shows
    (λ x t spec. shown_alike escape (shows x t spec) t spec (is_whole escape t) refl)
    (as_forest (nodes a)) e

-- ---- whole fields

plain_alike : (shown : Shown) (spec : Spec)
    → without_text (view_text (escaped_text csv_escape (view_text shown traits.Debug spec))
    traits.Debug spec) ≡ without_text (view_text shown traits.Debug spec)
plain_alike shown spec =
    escaped_alike csv_escape (view_text shown traits.Debug spec) traits.Debug spec

field_alike : (shown : Shown) (spec : Spec)
    → without_text (view_text (field_view (field_text shown) shown spec) traits.Debug spec)
    ≡ without_text (view_text shown traits.Debug spec)
unfolding view_text
field_alike (some_text text) spec = refl
field_alike (plain_text text) spec = refl
field_alike (one_character c) spec = refl
field_alike (float_number format x) spec = plain_alike (float_number format x) spec
field_alike (signed_number z bits) spec = plain_alike (signed_number z bits) spec
field_alike (unsigned_number n) spec = plain_alike (unsigned_number n) spec
field_alike (truth_value truth) spec = plain_alike (truth_value truth) spec
field_alike (decimal_number units scale) spec = plain_alike (decimal_number units scale) spec
field_alike nothing_implemented spec = plain_alike nothing_implemented spec
field_alike failure spec = plain_alike failure spec

under_debug : (t : Trait) → is_debug t ≡ true → t ≡ traits.Debug
under_debug traits.Debug h = refl
under_debug t h = absurd (cc)

record_alike : (shown : Shown) (t : Trait) (spec : Spec) (b : Bool) → is_debug t ≡ b
    → without_text (view_text (if b then field_view (field_text shown) shown spec
    else escaped_text csv_escape (view_text shown t spec)) t spec)
    ≡ without_text (view_text shown t spec)
record_alike shown t spec true h = rw (under_debug t h) (field_alike shown spec)
record_alike shown t spec false h = escaped_alike csv_escape (view_text shown t spec) t spec

pub record_fault : {X : Type 0} (shows : X → Trait → Spec → Shown) (e : Environment X) (a : At)
    → (means (record_shows shows) e a).fault ≡ (means shows e a).fault
record_fault shows e a =
    forest_fault (record_shows shows) shows
    (λ x t spec. record_alike (shows x t spec) t spec (is_debug t) refl) (as_forest (nodes a)) e
