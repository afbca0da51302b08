-- What a walk over the faults of a format has reported, from what it reported of their parts.
use Rattle.std.proofs.Common.{◌≡◌, refl, sym, ℕ, ◌+◌, ◌<◌, ◌≤◌, true, false, List, [], ◌++◌, map}
use Rattle.std.proofs.Common.{append_assoc, Option, Some, None, IsSome, arith, ◌∷◌}
use Rattle.std.proofs.lemmas.List.{append-nil, map-append}
use Rattle.std.specs.{List.list_any, Global.Vec}
use Rattle.interpolator_render.specs.{declared.view.Spec.Spec, declared.view.Trait.Trait}
use Rattle.interpolator_render.specs.{declared.view.Trait.TheVariants.Display, Views.Shown}
use Rattle.interpolator_syntax.specs.Faults.{Fault, Answer, fault, no_memory}
use Rattle.interpolator_syntax.specs.Nodes.{as_forest, Content, argument_content, target_value}
use Rattle.interpolator_syntax.specs.SpecTexts.{plain_spec}
use Rattle.interpolator_eval.specs.Slots.{Slots}
use Rattle.interpolator_eval.specs.Meaning.Samples.{Sample, bind_each, candidates_under, hidden}
use Rattle.interpolator_eval.specs.Meaning.Samples.{all_shown, some_missing, some_failed}
use Rattle.interpolator_pieces.specs.NodeChecks.{fault_list, stored_own_fault, stored_end_fault}
use Rattle.interpolator_pieces.specs.NodeExtents.{branch_depth, forest_depth}
use Rattle.interpolator_pieces.specs.NodeSamples.{asked_of, item_of, items_of_content}
use Rattle.interpolator_pieces.specs.NodeSamples.{node_faults_in, join_faults_in, forest_faults_in}
use Rattle.interpolator_pieces.specs.NodeSamples.{value_faults, found_faults}
use Rattle.interpolator_pieces.specs.StoredMeanings.{stored_name, unclosed_fault}
use Rattle.interpolator_pieces.specs.Stored.{detail_of, content_of, node_of, nodes_of, branch_of}
use Rattle.interpolator_pieces.specs.Stored.{node_whole}
use Rattle.interpolator_pieces.specs.Collecting.{Collects, AnswersFirst, kept_by}
use Rattle.interpolator_pieces.specs.declared.piece.Form.TheVariants as forms
use Rattle.interpolator_pieces.specs.declared.{piece.Piece.Piece, piece.Piece.TheViews.out-Piece}
use Rattle.interpolator_pieces.specs.declared.fault_collector.FaultCollector.{FaultCollector}
use Rattle.interpolator_pieces.specs.Visits.{outermost_spot}
use Rattle.interpolator_pieces.proofs.CheckLemmas.{entered_faults, left_faults}
use Rattle.interpolator_pieces.proofs.RunLemmas.{name_held, value_held}
use Rattle.interpolator_pieces.proofs.{StoredLemmas.node_of_out, WholePieceLemmas.fits_text}

-- ---- no fault, one, and one after the other

pub collects_nothing : (t : FaultCollector) → Collects [] t t None
collects_nothing t = grind (arith, append-nil)

pub collects_before : (xs ys : List Fault) (old new : FaultCollector) (q : Answer)
    → Collects xs old new (Some q) → Collects (xs ++ ys) old new (Some q)
collects_before xs ys old new q h = grind arith

pub collects_after : (xs ys : List Fault) (old mid new : FaultCollector) (r : Option Answer)
    → Collects xs old mid None → Collects ys mid new r → Collects (xs ++ ys) old new r
collects_after xs ys old mid new r h k = grind (arith, append_assoc, map-append)

pub answers_first : (fs : List Fault) (old new : FaultCollector) (r : Option Answer)
    → old.only_first ≡ true → Collects fs old new r → AnswersFirst fs r
answers_first fs old new r only h = grind arith

-- all are kept, unless memory is refused
pub all_kept : (fs : List Fault) (old new : FaultCollector) → kept_by old ≡ [] → Collects fs old new None
    → kept_by new ≡ map fault fs
all_kept fs old new e h = grind arith

pub only_memory : (fs : List Fault) (old new : FaultCollector) (a : Answer) → old.only_first ≡ false
    → Collects fs old new (Some a) → a ≡ no_memory
only_memory fs old new a all h = grind arith

-- ---- values that are shown

module _ {X : Type 0} (shows : X → Trait → Spec → Shown) (t : Trait) (spec : Spec) where
  none_hidden : (ts : List (Slots X)) → list_any (hidden shows t spec) ts ≡ false
      → (some_missing shows t spec ts ≡ false) × (some_failed shows t spec ts ≡ false)
  none_hidden [] h = (refl, refl)
  none_hidden (x ∷ xs) h = grind (arith, none_hidden xs)

  -- they have no fault
  pub shown_right : (end : ℕ) (ts : List (Slots X)) → list_any (hidden shows t spec) ts ≡ false
      → value_faults shows t spec end ts ≡ []
  shown_right end ts h = grind (arith, none_hidden ts h)

  -- nor has what was found, if it is all shown
  pub found_right : (start end : ℕ) (name : List ℕ) (found : Option (List (Slots X)))
      → all_shown shows t spec found ≡ true
      → found_faults shows start name (target_value t) spec end found ≡ []
  found_right start end name None h = absurd (cc)
  found_right start end name (Some ts) h = grind (arith, shown_right end ts)

-- ---- one piece

module _ {X : Type 0} (shows : X → Trait → Spec → Shown) (s : Sample X) where
  module _ (bs : List ℕ) (x : Piece) where
    -- the faults of its parts are its faults
    pub piece_parts : node_whole (node_of bs x) ≡ true
        → asked_of shows s (content_of bs x) ++ (fault_list (stored_own_fault x)
        ++ (item_of shows s (content_of bs x) (branch_of bs (out-Piece x).item)
        ++ (join_faults_in shows s (branch_of bs (out-Piece x).join)
        ++ fault_list (stored_end_fault x))))
        ≡ node_faults_in shows s (node_of bs x)
    piece_parts whole =
        let own = entered_faults bs x whole outermost_spot in
        let last = left_faults bs x whole outermost_spot in
        grind (arith, node_of_out bs x, fits_text bs x whole, own, last)

  -- an item format is checked with each item that there may be
  pub item_reported : (bs : List ℕ) (o : Option Content) (group : Option (Vec Piece)) (v : Vec Piece)
      (xs : List Piece) (inner : Sample X) (old new : FaultCollector) (r : Option Answer) → IsSome o
      → group ≡ Some v → xs ≡ v.items → inner ≡ bind_each s (items_of_content s o)
      → Collects (forest_faults_in shows inner (as_forest (nodes_of bs xs))) old new r
      → Collects (item_of shows s o (branch_of bs group)) old new r
  item_reported bs o group v xs inner old new r h is same e reported = grind arith

  -- ---- the parts of one piece, one after the other

  module _ (bs : List ℕ) (x : Piece) (whole : node_whole (node_of bs x) ≡ true) where
    abbrev Asked : List Fault
    Asked = asked_of shows s (content_of bs x)

    abbrev Own : List Fault
    Own = fault_list (stored_own_fault x)

    abbrev Item : List Fault
    Item = item_of shows s (content_of bs x) (branch_of bs (out-Piece x).item)

    abbrev Join : List Fault
    Join = join_faults_in shows s (branch_of bs (out-Piece x).join)

    abbrev Last : List Fault
    Last = fault_list (stored_end_fault x)

    abbrev All : List Fault
    All = node_faults_in shows s (node_of bs x)

    of_all : (old new : FaultCollector) (r : Option Answer)
        → Collects (Asked ++ (Own ++ (Item ++ (Join ++ Last)))) old new r → Collects All old new r
    of_all old new r h = grind (arith, piece_parts)

    -- its fault with the sample ends the walk
    pub asked_ends : (old new : FaultCollector) (q : Answer) → Collects Asked old new (Some q)
        → Collects All old new (Some q)
    asked_ends old new q h = of_all old new (Some q) (collects_before Asked _ old new q h)

    module _ (old after : FaultCollector) (asked : Collects Asked old after None) where
      -- its own fault does
      pub own_ends : (new : FaultCollector) (q : Answer) → Collects Own after new (Some q)
          → Collects All old new (Some q)
      own_ends new q h = grind (arith, of_all, collects_after, collects_before)

      module _ (checked : FaultCollector) (own : Collects Own after checked None) where
        -- its item format does
        pub item_ends : (new : FaultCollector) (q : Answer) → Collects Item checked new (Some q)
            → Collects All old new (Some q)
        item_ends new q h = grind (arith, of_all, collects_after, collects_before)

        module _ (looked : FaultCollector) (item : Collects Item checked looked None) where
          -- its join does
          pub join_ends : (new : FaultCollector) (q : Answer) → Collects Join looked new (Some q)
              → Collects All old new (Some q)
          join_ends new q h = grind (arith, of_all, collects_after, collects_before)

          -- all its faults are reported
          pub last_reported : (joined new : FaultCollector) (r : Option Answer)
              → Collects Join looked joined None → Collects Last joined new r → Collects All old new r
          last_reported joined new r join h = grind (arith, of_all, collects_after)

    -- ---- no fault at all

    module _ (bare : ((out-Piece x).item ≡ None) × ((out-Piece x).join ≡ None)) where
      pub text_right : (detail_of x).form ≡ forms.Text → All ≡ []
      text_right form = grind (arith, piece_parts bs x whole)

      module _ (t : Trait) (spec : Spec) (closed : unclosed_fault x ≡ None)
          (shown : (name : List ℕ) → stored_name bs x ≡ Some name
          → all_shown shows t spec (candidates_under s name) ≡ true) where
        shown_held : (o : Option (List ℕ)) → stored_name bs x ≡ o → IsSome o
            → ((name : List ℕ) → stored_name bs x ≡ Some name → content_of bs x ≡ Some
            (argument_content ((out-Piece x).place + 1) name spec (target_value t)
            (detail_of x).spec_end))
            → All ≡ []
        shown_held None is h held = absurd (cc)
        shown_held (Some name) is h held =
            let holds = held name is in
            grind (arith, piece_parts bs x whole, holds, shown name is, found_right shows t spec)

        pub name_right : IsSome (stored_name bs x) → (detail_of x).form ≡ forms.Plain → t ≡ Display
            → spec ≡ plain_spec → All ≡ []
        name_right h form display plain = shown_held _ refl h (λ name is.
            rw (display, plain) (name_held bs x _ name refl (sym is) form))

        pub value_right : IsSome (stored_name bs x) → (detail_of x).form ≡ forms.Value t
            → spec ≡ (detail_of x).spec → All ≡ []
        value_right h form own = shown_held _ refl h (λ name is.
            rw own (value_held bs x _ name refl (sym is) t form))

-- ---- how deep groups are

-- the pieces of a group
pub group_deep : (bs : List ℕ) (group : Option (Vec Piece)) (v : Vec Piece) (xs : List Piece)
    (level inner most : ℕ) → group ≡ Some v → xs ≡ v.items → inner ≤ level + 1
    → level + branch_depth (branch_of bs group) + 1 < most
    → inner + forest_depth (as_forest (nodes_of bs xs)) + 1 < most
group_deep bs group v xs level inner most is same l deep = grind arith
