-- A format without controls, whose values are escaped as those of a line, means none.
use Rattle.std.proofs.Common.{◌≡◌, ℕ, ◌<◌, Bool, true, false, List, [], ◌∷◌, ◌++◌, length, refl}
use Rattle.std.proofs.Common.{sym}
use Rattle.std.proofs.Common.{◌∙◌, subst, arith, Option, Some, None, Result, Ok, is_some, replicate}
use Rattle.std.proofs.Common.{filter, flat_map}
use Rattle.std.specs.Prelude.{⊤}
use Rattle.std.proofs.lemmas.List.Elements.{filter-append}
use Rattle.interpolator_render.specs.declared.view.Trait.{Trait}
use Rattle.interpolator_render.specs.declared.view.Trait.TheVariants as traits
use Rattle.interpolator_render.specs.Texts.{ViewText, has_text, has_no_text, has_failed, view_text}
use Rattle.interpolator_render.specs.{declared.view.Spec.Spec, Padding.fill_of, Views.Shown}
use Rattle.interpolator_syntax.specs.Nodes.{Node, node, Branch, no_branch, branch, Forest, no_nodes}
use Rattle.interpolator_syntax.specs.Nodes.{nodes_and, as_forest, nodes, Content, text_content}
use Rattle.interpolator_syntax.specs.Nodes.{argument_content, fault_content, group_branch}
use Rattle.interpolator_syntax.specs.Nodes.{item_branch, join_branch, piece_node, token_node}
use Rattle.interpolator_syntax.specs.Nodes.{target_value, target_list}
use Rattle.interpolator_syntax.specs.Pieces.{argument_from, argument_or_broken, argument_step}
use Rattle.interpolator_syntax.specs.Tokens.{Token, literals, doubled, lone_close, argument}
use Rattle.interpolator_syntax.specs.Tokens.{first_token, past_token}
use Rattle.interpolator_syntax.specs.{Arguments.Argument, Arguments.argument_at, Places.At}
use Rattle.interpolator_syntax.specs.{Places.text_of}
use Rattle.interpolator_syntax.specs.{Faults.Fault, Groups.Group, Groups.inside, SpecTexts.Kind}
use Rattle.interpolator_syntax.specs.SpecTexts.{plain_spec}
use Rattle.interpolator_syntax.proofs.GrammarArgumentLemmas.{broken_is}
use Rattle.interpolator_syntax.proofs.NodeLemmas.{by_length, nodes_first, nodes_none}
use Rattle.interpolator_syntax.proofs.SizeLemmas.{GroupIfIn, KindIn, argument_in}
use Rattle.interpolator_syntax.proofs.TokenLemmas.{token_shorter, scan_shorter}
use Rattle.interpolator_syntax.proofs.TokenTextLemmas.{written_text, takes_token, scan_taken}
use Rattle.interpolator_eval.specs.Slots.{Slots, values_of, items, slot_at}
use Rattle.interpolator_eval.specs.Meaning.Environments.{Environment, slots_under, bind}
use Rattle.interpolator_eval.specs.{Meaning.Choices.chosen_items, Meaning.Meanings.means}
use Rattle.interpolator_escapes.specs.Formats.{Stays, FillStays, NodeStands, ItemStands, JoinStands}
use Rattle.interpolator_escapes.specs.Formats.{ForestStands, Stands, escaped_shows}
use Rattle.interpolator_escapes.specs.FormatParts.{view_parts, found_parts, parts_after}
use Rattle.interpolator_escapes.specs.FormatParts.{items_parts, list_parts, value_parts, node_parts}
use Rattle.interpolator_escapes.specs.FormatParts.{join_parts, item_parts, forest_parts}
use Rattle.interpolator_escapes.specs.FormatParts.{escaped_value}
use Rattle.interpolator_escapes.specs.{Escapes.is_control, Escapes.line_escape, Lines.control_step}
use Rattle.interpolator_escapes.specs.{Lines.everywhere, Parts.Part, Parts.literal, Parts.assembled}
use Rattle.interpolator_escapes.specs.{Wholes.escaped_text, declared.escape.Escape.TheVariants.Line}
use Rattle.interpolator_escapes.proofs.FormatLemmas.{copies_stay, fill_stays}
use Rattle.interpolator_escapes.proofs.FormatPartLemmas.{whole-append, escaped_parts}
use Rattle.interpolator_escapes.proofs.KeepLemmas.{control_read, control_stays, value_controls}

-- a text without controls
abbrev NoControl : List ℕ → Type 0
NoControl cs = filter is_control cs ≡ []

empty_front : (xs ys : List ℕ) → xs ++ ys ≡ [] → xs ≡ []
empty_front [] ys e = refl
empty_front (x ∷ xs) ys e = absurd (cc)

empty_back : (xs ys : List ℕ) → xs ++ ys ≡ [] → ys ≡ []
empty_back [] ys e = e
empty_back (x ∷ xs) ys e = absurd (cc)

front_none : (xs ys : List ℕ) → NoControl (xs ++ ys) → NoControl xs
front_none xs ys h =
    empty_front (filter is_control xs) (filter is_control ys)
    (sym (filter-append is_control xs ys) ∙ h)

back_none : (xs ys : List ℕ) → NoControl (xs ++ ys) → NoControl ys
back_none xs ys h =
    empty_back (filter is_control xs) (filter is_control ys)
    (sym (filter-append is_control xs ys) ∙ h)

both_none : (xs ys : List ℕ) → NoControl xs → NoControl ys → NoControl (xs ++ ys)
both_none xs ys h j = rw (filter-append is_control xs ys, h) j

-- ---- the literals of a text

abbrev ContentNone : Content → Type 0
ContentNone (text_content from cs) = NoControl cs
ContentNone (argument_content start name spec target end) = ⊤
ContentNone (fault_content f) = ⊤

abbrev mutual
  NodeNone : Node → Type 0
  NodeNone (node place end kind None item join) = ⊤
  NodeNone (node place end kind (Some held) item join) =
      ContentNone held × BranchNone item × BranchNone join

  BranchNone : Branch → Type 0
  BranchNone no_branch = ⊤
  BranchNone (branch xs) = ForestNone xs

  ForestNone : Forest → Type 0
  ForestNone no_nodes = ⊤
  ForestNone (nodes_and x xs) = NodeNone x × ForestNone xs

-- a text without controls has none in its literals
abbrev Clear : At → Type 0
Clear a = NoControl a.text → ForestNone (as_forest (nodes a))

module _ (b : At) (more : (c : At) → length c.text < length b.text → Clear c)
    (none : NoControl b.text) where
  group_none : (o : Option Group) → GroupIfIn o b → BranchNone (group_branch nodes o)
  group_none None h = tt
  group_none (Some g) h =
      more (inside g) h.shorter
      (front_none g.text h.back
      (back_none h.front (g.text ++ h.back) (subst NoControl h.split none)))

  kind_none : (k : Kind) → KindIn k b
      → BranchNone (item_branch nodes k) × BranchNone (join_branch nodes k)
  kind_none k h = grind (arith, group_none)

  step_none : (p : ℕ) (x : Argument) (q : At) (o : Option At) → argument_at b ≡ Ok (x, q)
      → (let s = argument_step b.place b x q o in
      NodeNone (piece_node nodes p s.rest.place s.piece.kind))
  step_none p x q o e = grind (arith, kind_none x.kind (argument_in b x q e))

  answer_none : (p : ℕ) (r : Result (Argument × At) Fault) → argument_at b ≡ r
      → (let s = argument_or_broken b.place b r in
      NodeNone (piece_node nodes p s.rest.place s.piece.kind))
  answer_none p r e = grind (arith, step_none p, broken_is b)

  token_none : (p : ℕ) (t : Token) → NoControl (written_text t) → NodeNone (token_node nodes p t b)
  unfolding argument_from
  token_none p (literals cs) w = (w, tt, tt)
  token_none p (doubled c) w = (w, tt, tt)
  token_none p lone_close w = (w, tt, tt)
  token_none p argument w = answer_none p (argument_at b) refl

clear_by : (a : At) → ((b : At) → length b.text < length a.text → Clear b)
    → (o : Option (Token × At)) → first_token a ≡ o → Clear a
clear_by a shorter None e none = rw (nodes_none a e) tt
clear_by a shorter (Some w) e none =
    let rest = past_token w.0 w.1 in
    let taken = takes_token a w e in
    let past = scan_taken a w e in
    rw (nodes_first a w.1 w.0 e) (
      token_none w.1 (λ c l. shorter c (omega (arith, l, token_shorter a w e)))
          (back_none taken.takes.front w.1.text (subst NoControl taken.takes.split none))
          a.place w.0 (front_none (written_text w.0) taken.more (subst NoControl taken.begins none)),
      shorter rest (scan_shorter a _ w e refl)
          (back_none past.front rest.text (subst NoControl past.split none)),
    )

clear : (a : At) → Clear a
clear = by_length Clear (λ a shorter. clear_by a shorter (first_token a) refl)

-- ---- the parts of a format

-- parts that are written without controls
record Quiet (ps : List Part) : Type 0 where
  none : NoControl (assembled line_escape ps)

quiet_nothing : Quiet []
quiet_nothing = record { none = refl }

quiet_both : (ps qs : List Part) → Quiet ps → Quiet qs → Quiet (ps ++ qs)
quiet_both ps qs h j = record {
  none =
      rw (whole-append line_escape ps qs)
      (both_none (assembled line_escape ps) (assembled line_escape qs) h.none j.none);
}

quiet_literal : (cs : List ℕ) → NoControl cs → Quiet (literal cs ∷ [])
quiet_literal cs h = record { none = both_none cs [] h refl }

quiet_view : (v : ViewText) → Quiet (view_parts v)
quiet_view (has_text cs) = record {
  none = both_none (flat_map line_escape cs) [] (value_controls cs) refl;
}
quiet_view has_no_text = quiet_nothing
quiet_view has_failed = quiet_nothing

module _ (s : Unit {0}) where
  quiet_fill : (c n : ℕ) → Stays control_step s (c ∷ []) → Quiet (literal (replicate n c) ∷ [])
  quiet_fill c n h =
      quiet_literal (replicate n c)
      (sym (control_read s (replicate n c)) ∙ (copies_stay control_step everywhere s c n h).1)

  quiet_between : (c n m : ℕ) (ps : List Part) → Stays control_step s (c ∷ []) → Quiet ps
      → Quiet (literal (replicate n c) ∷ (ps ++ literal (replicate m c) ∷ []))
  quiet_between c n m ps fill h =
      quiet_both (literal (replicate n c) ∷ []) (ps ++ literal (replicate m c) ∷ [])
      (quiet_fill c n fill)
      (quiet_both ps (literal (replicate m c) ∷ []) h (quiet_fill c m fill))

  quiet_list : (spec : Spec) (ps : List Part) (b : Bool) → is_some spec.width ≡ b
      → FillStays control_step s spec spec.width → Quiet ps
      → Quiet (list_parts line_escape spec ps)
  quiet_list spec ps false e fill h = rw e h
  quiet_list spec ps true e fill h =
      rw e (quiet_between (fill_of spec) _ _ ps
      (fill_stays control_step everywhere s spec spec.width fill e) h)

module _ {A : Type 0} (between : List Part) (each : A → List Part) (joins : Quiet between)
    (quiet : (x : A) → Quiet (each x)) where
  quiet_after : (xs : List A) → Quiet (parts_after between each xs)
  quiet_after [] = quiet_nothing
  quiet_after (x ∷ xs) =
      quiet_both between _ joins (quiet_both (each x) _ (quiet x) (quiet_after xs))

  quiet_items : (xs : List A) → Quiet (items_parts between each xs)
  quiet_items [] = quiet_nothing
  quiet_items (x ∷ xs) = quiet_both (each x) _ (quiet x) (quiet_after xs)

quiet_found : {A : Type 0} (ps : A → List Part) (o : Option A) → ((x : A) → Quiet (ps x))
    → Quiet (found_parts ps o)
quiet_found ps None h = quiet_nothing
quiet_found ps (Some x) h = h x

module _ {X : Type 0} (shows : X → Trait → Spec → Shown) where
  abbrev Of : X → Trait → Spec → List Part
  Of = escaped_value Line shows

  quiet_value : (t : Trait) (spec : Spec) (o : Option X)
      → Quiet (value_parts line_escape Of t spec o)
  quiet_value t spec o = quiet_found _ o (λ x. quiet_view (view_text (shows x t spec) t spec))

  mutual
    node_quiet : (x : Node) (e : Environment X) (s t : Unit {0})
        → NodeStands control_step everywhere s x t → NodeNone x
        → Quiet (node_parts line_escape Of e x)
    node_quiet (node place end kind None item join) e s t h n = quiet_nothing
    node_quiet (node place end kind (Some (text_content from cs)) item join) e s t h n =
        quiet_literal cs n.0
    node_quiet (node place end kind (Some (fault_content f)) item join) e s t h n = quiet_nothing
    node_quiet (node place end kind (Some (argument_content start name spec (target_value w) q))
        item join) e s t h n =
        quiet_found _ (slots_under e name) (λ x. quiet_value w spec (slot_at w (values_of x)))
    node_quiet (node place end kind (Some (argument_content start name spec (target_list range) q))
        item join) e s t h n =
        quiet_found _ (slots_under e name) (λ x. quiet_found _ (items x)
        (λ xs. quiet_list s spec
        (items_parts (join_parts line_escape Of e join) (item_parts line_escape Of e item)
        (chosen_items range xs)) (is_some spec.width) refl h.2
        (quiet_items (join_parts line_escape Of e join) (item_parts line_escape Of e item)
        (join_quiet join e s h.1 n.2) (λ y. item_quiet item e s y h.0 n.1)
        (chosen_items range xs))))

    join_quiet : (b : Branch) (e : Environment X) (s : Unit {0})
        → JoinStands control_step everywhere s b → BranchNone b
        → Quiet (join_parts line_escape Of e b)
    join_quiet no_branch e s h n = quiet_nothing
    join_quiet (branch xs) e s h n = forest_quiet xs e s s h n

    item_quiet : (b : Branch) (e : Environment X) (s : Unit {0}) (x : Slots X)
        → ItemStands control_step everywhere s b → BranchNone b
        → Quiet (item_parts line_escape Of e b x)
    item_quiet no_branch e s x h n =
        quiet_value traits.Display plain_spec (slot_at traits.Display (values_of x))
    item_quiet (branch xs) e s x h n = forest_quiet xs (bind e x) s s h n

    forest_quiet : (xs : Forest) (e : Environment X) (s t : Unit {0})
        → ForestStands control_step everywhere s xs t → ForestNone xs
        → Quiet (forest_parts line_escape Of e xs)
    forest_quiet no_nodes e s t h n = quiet_nothing
    forest_quiet (nodes_and x xs) e s t h n =
        quiet_both _ _ (node_quiet x e s h.0 h.1 n.0) (forest_quiet xs e h.0 t h.2 n.1)

  pub line_stays : (e : Environment X) (a : At) → Stands control_step everywhere tt a tt
      → NoControl a.text → (means (escaped_shows Line shows) e a).fault ≡ None
      → NoControl (text_of (means (escaped_shows Line shows) e a).text)
  line_stays e a h none ok =
      rw (escaped_parts Line shows e a ok)
      (forest_quiet (as_forest (nodes a)) e tt tt h (clear a none)).none

-- an escaped text has no control, wherever it stands
pub controls_quiet : (text : ViewText) (t : Trait) (spec : Spec) (cs : List ℕ) (s : Unit {0})
    → view_text (escaped_text line_escape text) t spec ≡ has_text cs → Stays control_step s cs
unfolding view_text
controls_quiet (has_text ds) t spec cs s e =
    let same : flat_map line_escape ds ≡ cs = cc in rw (← same) (control_stays s ds)
controls_quiet has_no_text t spec cs s e = absurd (cc)
controls_quiet has_failed t spec cs s e = absurd (cc)
