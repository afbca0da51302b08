-- Where the values of a format stand, by its pieces alone.
use Rattle.std.specs.Prelude.{◌≡◌, ℕ, Bool, true, ⊤, List, [], ◌∷◌, Option, Some, None}
use Rattle.std.specs.Prelude.{if◌then◌else◌}
use Rattle.interpolator_render.specs.declared.view.Trait.{Trait}
use Rattle.interpolator_render.specs.declared.view.Trait.TheVariants.{Display}
use Rattle.interpolator_render.specs.{declared.view.Spec.Spec, Padding.fill_of, Texts.has_text}
use Rattle.interpolator_render.specs.{Texts.view_text, Views.Shown, Views.plain_text}
use Rattle.interpolator_eval.specs.Meaning.Meanings.{Meaning}
use Rattle.interpolator_syntax.specs.Nodes.{Node, node, Branch, no_branch, branch, as_forest}
use Rattle.interpolator_syntax.specs.Nodes.{Forest, no_nodes, nodes_and, nodes, text_content}
use Rattle.interpolator_syntax.specs.Nodes.{argument_content, fault_content, target_value}
use Rattle.interpolator_syntax.specs.Nodes.{target_list}
use Rattle.interpolator_syntax.specs.{Places.At, Places.text_of, SpecTexts.plain_spec}
use Rattle.interpolator_escapes.specs.Readers.{Token, structure_of, state_after, read}
use Rattle.interpolator_escapes.specs.Wholes.{escaped_text, is_whole, whole_text, whole_view}
use Rattle.interpolator_escapes.specs.{Escapes.escape_of, declared.escape.Escape.Escape}

-- what is shown in place of what a view shows: its text escaped, or a whole value
abbrev pub escaped_view : Escape → Shown → Trait → Spec → Shown
escaped_view escape shown t spec =
    if is_whole escape t then whole_view (whole_text shown) shown spec
    else escaped_text (escape_of escape) (view_text shown t spec)

-- values that are written so
abbrev pub escaped_shows : {X : Type 0} → Escape → (shows : X → Trait → Spec → Shown)
    → X → Trait → Spec → Shown
escaped_shows escape shows x t spec = escaped_view escape (shows x t spec) t spec

-- every value shows the empty text
abbrev pub shows_nothing : {X : Type 0} → X → Trait → Spec → Shown
shows_nothing x t spec = plain_text []

module _ {S : Type 0} (step : S → ℕ → S × List Token) where
  -- the structure of what a format means, for a reader at s
  abbrev pub structure_from : S → Meaning → List ℕ
  structure_from s m = structure_of (read step s (text_of m.text))

  -- the reader stays where it is, and reads no structure
  abbrev pub Stays : S → List ℕ → Type 0
  Stays s cs = (state_after step s cs ≡ s) × (structure_of (read step s cs) ≡ [])

  -- so does the fill of a list that has a width
  abbrev pub FillStays : S → Spec → Option ℕ → Type 0
  FillStays s spec None = ⊤
  FillStays s spec (Some width) = Stays s (fill_of spec ∷ [])

  module _ (is_place : S → Trait → Spec → Bool) where
    -- the texts of values leave the reader where it is, in each place
    abbrev pub StayInPlaces : {X : Type 0} → (shows : X → Trait → Spec → Shown) → Type 0
    StayInPlaces {X} shows =
        (x : X) (t : Trait) (spec : Spec) (cs : List ℕ) (s : S)
        → view_text (shows x t spec) t spec ≡ has_text cs → is_place s t spec ≡ true → Stays s cs

    abbrev mutual
      -- each value of a piece stands in a place, if the reader is at s before the piece; it is at t
      -- after it
      pub NodeStands : S → Node → S → Type 0
      NodeStands s (node place end kind None item join) t = t ≡ s
      NodeStands s (node place end kind (Some (text_content from cs)) item join) t =
          t ≡ state_after step s cs
      NodeStands s (node place end kind (Some (fault_content f)) item join) t = t ≡ s
      NodeStands s (node place end kind (Some (argument_content start name spec (target_value w) q))
          item join) t =
          (is_place s w spec ≡ true) × (t ≡ s)
      NodeStands s (node place end kind (Some (argument_content start name spec (target_list range)
          q)) item join) t =
          ItemStands s item × JoinStands s join × FillStays s spec spec.width × (t ≡ s)

      -- an item leaves the reader where it was, and so does what is between two
      pub ItemStands : S → Branch → Type 0
      ItemStands s no_branch = is_place s Display plain_spec ≡ true
      ItemStands s (branch xs) = ForestStands s xs s

      pub JoinStands : S → Branch → Type 0
      JoinStands s no_branch = ⊤
      JoinStands s (branch xs) = ForestStands s xs s

      pub ForestStands : S → Forest → S → Type 0
      ForestStands s no_nodes t = t ≡ s
      ForestStands s (nodes_and x xs) t = (u : S) × NodeStands s x u × ForestStands u xs t

    -- each value of a text
    abbrev pub Stands : S → At → S → Type 0
    Stands s a t = ForestStands s (as_forest (nodes a)) t
