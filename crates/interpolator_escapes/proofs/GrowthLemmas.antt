-- An escaped text has at most six characters for each of the plain text.
use Rattle.std.proofs.Common.{◌≡◌, ℕ, Bool, true, false, List, [], ◌∷◌, refl, sym, ◌∙◌, arith}
use Rattle.std.proofs.Common.{Option, Some, None, is_some, length, ◌≤◌, ◌*◌, flat_map}
use Rattle.std.proofs.Common.{length-append, ◌++◌, ◌<◌, ◌+◌, codes, if◌then◌else◌}
use Rattle.std.proofs.{lemmas.Bool.Decides.nat_tests, lemmas.List.length-map}
use Rattle.interpolator_render.specs.declared.view.Trait.{Trait}
use Rattle.interpolator_render.specs.declared.view.Trait.TheVariants as traits
use Rattle.interpolator_render.specs.Texts.{ViewText, has_text, has_no_text, has_failed, view_text}
use Rattle.interpolator_render.specs.Texts.{padded_float}
use Rattle.interpolator_render.specs.Characters.{double_quote, single_quote}
use Rattle.interpolator_render.specs.Quoting.{escape_by, escape_letter, quotation}
use Rattle.interpolator_render.specs.Quoting.{escape_of as quote_escape}
use Rattle.interpolator_render.specs.Views.{Shown, signed_number, unsigned_number, truth_value}
use Rattle.interpolator_render.specs.Views.{decimal_number, float_number, one_character, some_text}
use Rattle.interpolator_render.specs.Views.{plain_text, nothing_implemented, failure}
use Rattle.interpolator_render.specs.{declared.view.Spec.Spec, Forms.float_body, Numbers.sign_text}
use Rattle.std.specs.Float.{Float, Format, nan, inf, fin, float_is_finite}
use Rattle.interpolator_syntax.specs.Nodes.{Node, node, Branch, no_branch, branch, as_forest}
use Rattle.interpolator_syntax.specs.Nodes.{Forest, no_nodes, nodes_and, nodes, text_content}
use Rattle.interpolator_syntax.specs.Nodes.{argument_content, fault_content, target_value}
use Rattle.interpolator_syntax.specs.Nodes.{target_list}
use Rattle.interpolator_syntax.specs.{Places.At, Places.text_of, Faults.Fault, SpecTexts.plain_spec}
use Rattle.interpolator_syntax.specs.declared.piece_kind.PieceKind.{PieceKind}
use Rattle.interpolator_syntax.specs.declared.piece_kind.PieceKind.TheVariants as kinds
use Rattle.interpolator_syntax.specs.{declared.range.Range.Range, Places.placed_at}
use Rattle.interpolator_eval.specs.Slots.{Slots, values_of, items, slot_at}
use Rattle.interpolator_eval.specs.Meaning.Choices.{chosen_items}
use Rattle.interpolator_eval.specs.Meaning.Environments.{Environment, slots_under, bind}
use Rattle.interpolator_eval.specs.Meaning.Meanings.{Meaning, chain, value_means, view_means}
use Rattle.interpolator_eval.specs.Meaning.Meanings.{forbids_list, buffered_means, padded_list}
use Rattle.interpolator_eval.specs.Meaning.Meanings.{items_after, items_mean, under_name}
use Rattle.interpolator_eval.specs.Meaning.Meanings.{listed_means, and_closed, node_means}
use Rattle.interpolator_eval.specs.Meaning.Meanings.{join_branch_means, item_branch_means}
use Rattle.interpolator_eval.specs.Meaning.Meanings.{forest_means, means, or_fault}
use Rattle.interpolator_render.specs.Padding.{padded_text, padded_number}
use Rattle.interpolator_render.proofs.LawLemmas.{padded_text_count, padded_number_count}
use Rattle.std.proofs.Common.{◌==◌, ◌||◌, nat_lt}
use Rattle.interpolator_escapes.specs.Escapes.{escape_of, line_escape, json_escape, is_control}
use Rattle.interpolator_escapes.specs.declared.escape.Escape.TheVariants.{Line, Html, Csv, Json}
use Rattle.interpolator_escapes.specs.declared.escape.Escape.TheVariants.{Shell}
use Rattle.interpolator_escapes.specs.Growth.{in_quotes, with_quotes}
use Rattle.interpolator_escapes.specs.Wholes.{escaped_text, is_whole, json_null, json_string}
use Rattle.interpolator_escapes.specs.Wholes.{whole_text, whole_view}
use Rattle.interpolator_escapes.specs.{declared.escape.Escape.Escape, Formats.escaped_shows}
use Rattle.interpolator_escapes.proofs.{KeepLemmas.choose, FaultLemmas.debug_is}
use Rattle.interpolator_escapes.proofs.WholeLemmas.{plain_shown}

-- a text of at most six characters
abbrev Short : List ℕ → Type 0
Short cs = length cs ≤ 6

line_six : (c : ℕ) → Short (line_escape c)
line_six c =
    choose Short (c == 92) _ _ (λ e. omega arith)
    (λ n. choose Short (c == 10) _ _ (λ e. omega arith)
    (λ n. choose Short (c == 13) _ _ (λ e. omega arith)
    (λ n. choose Short (c == 9) _ _ (λ e. omega arith)
    (λ n. choose Short (is_control c) _ _
    (λ e. choose Short (nat_lt c 256) _ _ (λ e. omega arith) (λ n. omega arith))
    (λ n. omega arith)))))

json_six : (c : ℕ) → Short (json_escape c)
json_six c =
    choose Short (c == 92) _ _ (λ e. omega arith)
    (λ n. choose Short (c == 34) _ _ (λ e. omega arith)
    (λ n. choose Short (c == 10) _ _ (λ e. omega arith)
    (λ n. choose Short (c == 13) _ _ (λ e. omega arith)
    (λ n. choose Short (c == 9) _ _ (λ e. omega arith)
    (λ n. choose Short (nat_lt c 32 || (c == 60)) _ _ (λ e. omega arith) (λ n. omega arith))))))

escape_six : (escape : Escape) (c : ℕ) → length (escape_of escape c) ≤ 6
escape_six Line c = line_six c
escape_six Html c = grind (arith, nat_tests)
escape_six Csv c = grind (arith, nat_tests)
escape_six Json c = json_six c
escape_six Shell c = grind (arith, nat_tests)

-- the fault is the same, and the text at most six times as long
abbrev Six : Meaning → Meaning → Type 0
Six m k = (m.fault ≡ k.fault) × (length m.text ≤ 6 * length k.text)

six_by : (m k n l : Meaning) (o : Option Fault) → m.fault ≡ o → Six m k → Six n l
    → Six (or_fault o m n) (chain k l)
six_by m k n l (Some f) e h j =
    let d : k.fault ≡ Some f = sym h.0 ∙ e in
    rw d (e, h.1)
six_by m k n l None e h j =
    let d : k.fault ≡ None = sym h.0 ∙ e in
    rw d (j.0, omega (arith, length-append {A = ℕ × ℕ}, h.1, j.1))

chain_six : (m k n l : Meaning) → Six m k → Six n l → Six (chain m n) (chain k l)
chain_six m k n l h j = six_by m k n l m.fault refl h j

placed_length : (q : ℕ) (cs : List ℕ) → length (placed_at q cs) ≡ length cs
placed_length q [] = refl
placed_length q (c ∷ cs) = omega (arith, placed_length q cs)

text_length : (m : Meaning) → length (text_of m.text) ≡ length m.text
text_length m = length-map m.text (λ (x : ℕ × ℕ). x.0)

buffered_six : (spec : Spec) (q : ℕ) (m k : Meaning) (o : Option Fault) → m.fault ≡ o → Six m k
    → Six (buffered_means spec q o (text_of m.text))
    (buffered_means spec q k.fault (text_of k.text))
buffered_six spec q m k (Some f) e h =
    let d : k.fault ≡ Some f = sym h.0 ∙ e in
    rw d (refl, omega arith)
buffered_six spec q m k None e h =
    let d : k.fault ≡ None = sym h.0 ∙ e in
    let x = padded_text_count spec (text_of m.text) in
    let y = padded_text_count spec (text_of k.text) in
    rw d (
      refl,
      omega (
        arith,
        placed_length q (padded_text spec (text_of m.text)),
        placed_length q (padded_text spec (text_of k.text)),
        x,
        y,
        text_length m,
        text_length k,
        h.1,
      ),
    )

padded_six : (spec : Spec) (q : ℕ) (m k : Meaning) (b : Bool) → is_some spec.width ≡ b
    → Six m k → Six (padded_list spec q m) (padded_list spec q k)
padded_six spec q m k false e h = rw e h
padded_six spec q m k true e h = rw e (buffered_six spec q m k m.fault refl h)

closed_six : (kind : PieceKind) (q : ℕ) (m k : Meaning) → Six m k
    → Six (and_closed kind q m) (and_closed kind q k)
closed_six kinds.Unclosed q m k h = chain_six m k _ _ h (refl, omega arith)
closed_six kind q m k h = h

module _ {A : Type 0} (join none : Meaning) (item other : A → Meaning) (joins : Six join none)
    (each : (x : A) → Six (item x) (other x)) where
  after_six : (xs : List A) → Six (items_after join item xs) (items_after none other xs)
  after_six [] = (refl, omega arith)
  after_six (x ∷ xs) =
      chain_six join none _ _ joins (chain_six (item x) (other x) _ _ (each x) (after_six xs))

  items_six : (xs : List A) → Six (items_mean join item xs) (items_mean none other xs)
  items_six [] = (refl, omega arith)
  items_six (x ∷ xs) = chain_six (item x) (other x) _ _ (each x) (after_six xs)

module _ (escape : ℕ → List ℕ) (short : (c : ℕ) → length (escape c) ≤ 6) where
  text_six : (cs : List ℕ) → length (flat_map escape cs) ≤ 6 * length cs
  text_six [] = omega arith
  text_six (c ∷ cs) = omega (arith, length-append {A = ℕ}, short c, text_six cs)

  view_six : (t : Trait) (q : ℕ) (spec : Spec) (v : ViewText)
      → Six (view_means t q (view_text (escaped_text escape v) t spec)) (view_means t q v)
  unfolding view_text
  view_six t q spec (has_text cs) =
      (refl, omega (arith, placed_length q (flat_map escape cs), placed_length q cs, text_six cs))
  view_six t q spec has_no_text = (refl, omega arith)
  view_six t q spec has_failed = (refl, omega arith)

-- values of which each has a text at most six times as long
module _ {X : Type 0} (shows others : X → Trait → Spec → Shown)
    (each : (x : X) (t : Trait) (spec : Spec) (q : ℕ)
    → Six (view_means t q (view_text (shows x t spec) t spec))
    (view_means t q (view_text (others x t spec) t spec)))
  where
    value_six : (t : Trait) (spec : Spec) (q : ℕ) (o : Option X)
        → Six (value_means shows t spec q o) (value_means others t spec q o)
    value_six t spec q None = (refl, omega arith)
    value_six t spec q (Some x) = each x t spec q

    listed_six : (range : Option Range) (spec : Spec) (q : ℕ) (join none : Meaning)
        (item other : Slots X → Meaning) (o : Option (List (Slots X))) (b : Bool)
        → forbids_list spec ≡ b → Six join none → ((x : Slots X) → Six (item x) (other x))
        → Six (listed_means range spec q join item o) (listed_means range spec q none other o)
    listed_six range spec q join none item other None b e joins each = (refl, omega arith)
    listed_six range spec q join none item other (Some xs) true e joins each =
        rw e (refl, omega arith)
    listed_six range spec q join none item other (Some xs) false e joins each =
        rw e (padded_six spec q (items_mean join item (chosen_items range xs))
        (items_mean none other (chosen_items range xs)) (is_some spec.width) refl
        (items_six join none item other joins each (chosen_items range xs)))

    found_six : (name : List ℕ) (start : ℕ) (m k : Slots X → Meaning) (o : Option (Slots X))
        → ((x : Slots X) → Six (m x) (k x))
        → Six (under_name name start m o) (under_name name start k o)
    found_six name start m k None h = (refl, omega arith)
    found_six name start m k (Some x) h = h x

    mutual
      node_six : (x : Node) (e : Environment X) → Six (node_means shows e x)
          (node_means others e x)
      node_six (node place end kind None item join) e = (refl, omega arith)
      node_six (node place end kind (Some (text_content from cs)) item join) e = (refl, omega arith)
      node_six (node place end kind (Some (fault_content f)) item join) e = (refl, omega arith)
      node_six (node place end kind (Some (argument_content start name spec (target_value w) q))
          item join) e =
          closed_six kind q _ _ (found_six name start _ _ (slots_under e name)
          (λ x. value_six w spec q (slot_at w (values_of x))))
      node_six (node place end kind (Some (argument_content start name spec (target_list range) q))
          item join) e =
          closed_six kind q _ _ (found_six name start _ _ (slots_under e name)
          (λ x. listed_six range spec q _ _ _ _ (items x) (forbids_list spec) refl
          (join_six join e) (λ y. item_six item e q y)))

      join_six : (b : Branch) (e : Environment X)
          → Six (join_branch_means shows e b) (join_branch_means others e b)
      join_six no_branch e = (refl, omega arith)
      join_six (branch xs) e = forest_six xs e

      item_six : (b : Branch) (e : Environment X) (q : ℕ) (x : Slots X)
          → Six (item_branch_means shows e b q x) (item_branch_means others e b q x)
      item_six no_branch e q x =
          value_six traits.Display plain_spec q (slot_at traits.Display (values_of x))
      item_six (branch xs) e q x = forest_six xs (bind e x)

      forest_six : (xs : Forest) (e : Environment X)
          → Six (forest_means shows e xs) (forest_means others e xs)
      forest_six no_nodes e = (refl, omega arith)
      forest_six (nodes_and x xs) e = chain_six _ _ _ _ (node_six x e) (forest_six xs e)

-- ---- whole values

plain_six : (text : List ℕ) (t : Trait) (q : ℕ) (spec : Spec) (v : ViewText) (cs : List ℕ)
    → v ≡ has_text cs → length text ≤ 6 * length cs
    → Six (view_means t q (view_text (plain_text text) t spec)) (view_means t q v)
plain_six text t q spec v cs e h =
    rw (e, plain_shown text t spec)
    (refl, omega (arith, placed_length q text, placed_length q cs, h))

string_six : (text : List ℕ) → length (json_string text) ≤ 6 * length text + 2
string_six text =
    omega (
      arith,
      length-append (flat_map json_escape text) (34 ∷ []),
      text_six json_escape json_six text,
    )

letter_some : (letter : Option ℕ) (c : ℕ) → 0 < length (escape_by letter c)
letter_some (Some letter) c = omega arith
letter_some None c =
    choose (λ cs. 0 < length cs) (nat_lt c 32 || (c == 127)) _ _ (λ e. omega arith)
    (λ e. omega arith)

quoted_some : (quote : ℕ) (text : List ℕ)
    → length text ≤ length (flat_map (quote_escape quote) text)
quoted_some quote [] = omega arith
quoted_some quote (c ∷ cs) =
    omega (
      arith,
      length-append (quote_escape quote c) (flat_map (quote_escape quote) cs),
      letter_some (escape_letter quote c) c,
      quoted_some quote cs,
    )

quotation_least : (quote : ℕ) (text : List ℕ) → length text + 2 ≤ length (quotation quote text)
quotation_least quote text =
    omega (
      arith,
      length-append (flat_map (quote_escape quote) text) (quote ∷ []),
      quoted_some quote text,
    )

-- a float that is not finite has a word
word_least : (format : Format) (spec : Spec) (x : Float) → float_is_finite x ≡ false
    → (cs : List ℕ) × (view_text (float_number format x) traits.Debug spec ≡ has_text cs)
    × (0 < length cs)
unfolding view_text float_is_finite
word_least format spec x e = of_body x spec.precision e
  where
    of_body : (x : Float) (precision : Option ℕ) → float_is_finite x ≡ false
        → (cs : List ℕ)
        × (padded_float spec x (float_body format traits.Debug precision x) ≡ has_text cs)
        × (0 < length cs)
    of_body nan None e =
        (padded_number spec [] (codes "NaN"), refl, omega (arith, padded_number_count spec [] (codes "NaN")))
    of_body nan (Some places) e =
        (padded_number spec [] (codes "NaN"), refl, omega (arith, padded_number_count spec [] (codes "NaN")))
    of_body (inf s) None e =
        let front = sign_text s spec.sign in
        (padded_number spec front (codes "inf"), refl, omega (arith, padded_number_count spec front (codes "inf")))
    of_body (inf s) (Some places) e =
        let front = sign_text s spec.sign in
        (padded_number spec front (codes "inf"), refl, omega (arith, padded_number_count spec front (codes "inf")))
    of_body (fin s m k) precision e = absurd (cc)

debug_six : (shown : Shown) (q : ℕ) (spec : Spec)
    → Six (view_means traits.Debug q
    (view_text (escaped_text json_escape (view_text shown traits.Debug spec)) traits.Debug spec))
    (view_means traits.Debug q (view_text shown traits.Debug spec))
debug_six shown q spec =
    view_six json_escape json_six traits.Debug q spec (view_text shown traits.Debug spec)

float_six : (format : Format) (x : Float) (q : ℕ) (spec : Spec) (b : Bool)
    → float_is_finite x ≡ b
    → Six (view_means traits.Debug q (view_text (whole_view (if b then None else Some json_null)
    (float_number format x) spec) traits.Debug spec))
    (view_means traits.Debug q (view_text (float_number format x) traits.Debug spec))
float_six format x q spec true e = debug_six (float_number format x) q spec
float_six format x q spec false e =
    let word = word_least format spec x e in
    plain_six json_null traits.Debug q spec _ word.0 word.1 (omega (arith, word.2))

whole_six : (shown : Shown) (q : ℕ) (spec : Spec)
    → Six (view_means traits.Debug q
    (view_text (whole_view (whole_text shown) shown spec) traits.Debug spec))
    (view_means traits.Debug q (view_text (in_quotes true shown) traits.Debug spec))
unfolding view_text
whole_six (some_text text) q spec =
    plain_six (json_string text) traits.Debug q spec _ (quotation double_quote text) refl
    (omega (arith, string_six text, quotation_least double_quote text))
whole_six (plain_text text) q spec =
    plain_six (json_string text) traits.Debug q spec _ (34 ∷ (text ++ 34 ∷ [])) refl
    (omega (arith, string_six text, length-append text (34 ∷ [])))
whole_six (one_character c) q spec =
    plain_six (json_string (c ∷ [])) traits.Debug q spec _ (quotation single_quote (c ∷ [])) refl
    (omega (arith, string_six (c ∷ []), quotation_least single_quote (c ∷ [])))
whole_six (float_number format x) q spec = float_six format x q spec (float_is_finite x) refl
whole_six (signed_number z bits) q spec = debug_six (signed_number z bits) q spec
whole_six (unsigned_number n) q spec = debug_six (unsigned_number n) q spec
whole_six (truth_value truth) q spec = debug_six (truth_value truth) q spec
whole_six (decimal_number units scale) q spec = debug_six (decimal_number units scale) q spec
whole_six nothing_implemented q spec = debug_six nothing_implemented q spec
whole_six failure q spec = debug_six failure q spec

shown_six : (escape : Escape) (shown : Shown) (t : Trait) (spec : Spec) (q : ℕ) (b : Bool)
    → is_whole escape t ≡ b
    → Six (view_means t q (view_text (if b then whole_view (whole_text shown) shown spec
    else escaped_text (escape_of escape) (view_text shown t spec)) t spec))
    (view_means t q (view_text (in_quotes b shown) t spec))
shown_six escape shown t spec q true w =
    let is = debug_is escape t w in rw is.1 (whole_six shown q spec)
shown_six escape shown t spec q false w =
    view_six (escape_of escape) (escape_six escape) t q spec (view_text shown t spec)

pub escaped_six : (escape : Escape) {X : Type 0} (shows : X → Trait → Spec → Shown)
    (e : Environment X) (a : At)
    → length (means (escaped_shows escape shows) e a).text
    ≤ 6 * length (means (with_quotes escape shows) e a).text
escaped_six escape shows e a =
    (forest_six (escaped_shows escape shows) (with_quotes escape shows)
    (λ x t spec q. shown_six escape (shows x t spec) t spec q (is_whole escape t) refl)
    (as_forest (nodes a)) e).1

pub others_six : (escape : Escape) {X : Type 0} (shows : X → Trait → Spec → Shown)
    (e : Environment X) (a : At) → (escape ≡ Json → ⊥)
    → length (means (escaped_shows escape shows) e a).text ≤ 6 * length (means shows e a).text
others_six Json shows e a differs = absurd (differs refl)
others_six Line shows e a differs = escaped_six Line shows e a
others_six Html shows e a differs = escaped_six Html shows e a
others_six Csv shows e a differs = escaped_six Csv shows e a
others_six Shell shows e a differs = escaped_six Shell shows e a
