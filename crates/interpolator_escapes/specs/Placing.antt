-- Which of a format's values is the first that does not stand in a place, and why; and where a
-- format of which all stand ends.
use Rattle.std.specs.Prelude.{◌≡◌, ◌⊎◌, ℕ, Bool, false, true, ⊤, List, Result, Ok, Err, Some, None}
use Rattle.interpolator_render.specs.{declared.view.Spec.Spec, declared.view.Trait.Trait}
use Rattle.interpolator_render.specs.declared.view.Trait.TheVariants.{Display}
use Rattle.interpolator_eval.specs.Meaning.Meanings.{Meaning}
use Rattle.interpolator_syntax.specs.Nodes.{Node, node, Branch, no_branch, branch, as_forest}
use Rattle.interpolator_syntax.specs.Nodes.{Forest, no_nodes, nodes_and, nodes, text_content}
use Rattle.interpolator_syntax.specs.Nodes.{argument_content, fault_content, target_value}
use Rattle.interpolator_syntax.specs.Nodes.{target_list}
use Rattle.interpolator_syntax.specs.{Places.At, Places.text_of, SpecTexts.plain_spec}
use Rattle.interpolator_escapes.specs.Readers.{Token, read, structure_of}
use Rattle.interpolator_escapes.specs.Formats.{NodeStands, ItemStands, JoinStands, ForestStands}
use Rattle.interpolator_escapes.specs.Formats.{FillStays, Stands}
use Rattle.interpolator_escapes.specs.Csv.{CsvState, field_start, csv_step, is_csv_place}
use Rattle.interpolator_escapes.specs.Html.{HtmlState, html_start, html_step, is_html_place}
use Rattle.interpolator_escapes.specs.Json.{JsonState, between, json_step, is_json_place}
use Rattle.interpolator_escapes.specs.Lines.{control_step, everywhere}
use Rattle.interpolator_escapes.specs.Shell.{ShellState, outside, shell_step, is_shell_place}
use Rattle.interpolator_escapes.specs.declared.ending.Ending.TheVariants.{Beginning, Place}
use Rattle.interpolator_escapes.specs.declared.ending.Ending.TheVariants.{Elsewhere}
use Rattle.interpolator_escapes.specs.declared.escape.Escape.TheVariants.{Line, Html, Csv, Json}
use Rattle.interpolator_escapes.specs.declared.escape.Escape.TheVariants.{Shell}
use Rattle.interpolator_escapes.specs.{declared.ending.Ending.Ending, declared.escape.Escape.Escape}
use Rattle.interpolator_escapes.specs.declared.misplaced.Misplaced.{Misplaced}
use Rattle.interpolator_escapes.specs.declared.misplaced.PlaceError.{PlaceError}
use Rattle.interpolator_escapes.specs.declared.misplaced.PlaceError.TheVariants as errors
use Rattle.interpolator_escapes.specs.declared.misplaced.Why.{Why}
use Rattle.interpolator_escapes.specs.declared.misplaced.Why.TheVariants.{Value, Item, Join, Fill}

-- what the code answers, if memory did not run out: that all stands, or what fails first
abbrev pub Placed : (stands : Type 0) (fails : Misplaced → Type 0)
    → Result (Unit {0}) PlaceError → Type 0
Placed stands fails (Ok _) = stands
Placed stands fails (Err (errors.Misplaced m)) = fails m
Placed stands fails (Err errors.NoMemory) = ⊤

-- what is told of the first that fails
abbrev pub IfMisplaced : {A : Type 0} → Result A PlaceError → (Misplaced → Type 0) → Type 0
IfMisplaced (Err (errors.Misplaced m)) fails = fails m
IfMisplaced _ fails = ⊤

module _ {S : Type 0} (step : S → ℕ → S × List Token) (is_place : S → Trait → Spec → Bool) where
  -- a value, or a list, at `place` is not in a place
  abbrev pub ValueFails : ℕ → S → Trait → Spec → Misplaced → Type 0
  ValueFails place s t spec m =
      (is_place s t spec ≡ false) × (m ≡ record { place = place; why = Value })

  -- the pieces of a group stand, but leave the reader elsewhere
  abbrev pub EndsElsewhere : ℕ → Why → S → Forest → Misplaced → Type 0
  EndsElsewhere place why s xs m =
      (t : S) × ForestStands step is_place s xs t × (t ≡ s → ⊥)
      × (m ≡ record { place = place; why = why })

  -- the fill of a list does not stay
  abbrev pub FillFails : ℕ → S → Spec → Misplaced → Type 0
  FillFails place s spec m =
      (FillStays step s spec spec.width → ⊥) × (m ≡ record { place = place; why = Fill })

  abbrev mutual
    -- what is the first in a piece, if the reader is at s before it: a value that does not stand,
    -- or a list of which an item or a join ends elsewhere, or the fill does not stay
    pub NodeFails : S → Node → Misplaced → Type 0
    NodeFails s (node place end kind None item join) m = ⊥
    NodeFails s (node place end kind (Some (text_content from cs)) item join) m = ⊥
    NodeFails s (node place end kind (Some (fault_content f)) item join) m = ⊥
    NodeFails s (node place end kind (Some (argument_content start name spec (target_value w) q))
        item join) m =
        ValueFails place s w spec m
    NodeFails s (node place end kind (Some (argument_content start name spec (target_list range) q))
        item join) m =
        ItemFails place s item m
        ⊎ (ItemStands step is_place s item × JoinFails place s join m)
        ⊎ (ItemStands step is_place s item × JoinStands step is_place s join
        × FillFails place s spec m)

    -- of the item of a list at `place`
    pub ItemFails : ℕ → S → Branch → Misplaced → Type 0
    ItemFails place s no_branch m = ValueFails place s Display plain_spec m
    ItemFails place s (branch xs) m = ForestFails s xs m ⊎ EndsElsewhere place Item s xs m

    -- of its join
    pub JoinFails : ℕ → S → Branch → Misplaced → Type 0
    JoinFails place s no_branch m = ⊥
    JoinFails place s (branch xs) m = ForestFails s xs m ⊎ EndsElsewhere place Join s xs m

    -- of pieces: those before it stand
    pub ForestFails : S → Forest → Misplaced → Type 0
    ForestFails s no_nodes m = ⊥
    ForestFails s (nodes_and x xs) m =
        NodeFails s x m ⊎ ((u : S) × NodeStands step is_place s x u × ForestFails u xs m)

  -- of a text
  abbrev pub Fails : S → At → Misplaced → Type 0
  Fails s a m = ForestFails s (as_forest (nodes a)) m

  -- where a reader is at t that began at s
  abbrev pub IsEnding : (s t : S) → Ending → Type 0
  IsEnding s t Beginning = t ≡ s
  IsEnding s t Place = (t ≡ s → ⊥) × (is_place t Display plain_spec ≡ true)
  IsEnding s t Elsewhere = (t ≡ s → ⊥) × (is_place t Display plain_spec ≡ false)

  -- all values of a text stand, and a reader ends there
  abbrev pub Ends : S → At → Ending → Type 0
  Ends s a ending = (t : S) × Stands step is_place s a t × IsEnding s t ending

  -- ---- what the code answers of pieces, after which the reader is at t, and of their parts

  abbrev pub NodePlaced : S → Node → S → Result (Unit {0}) PlaceError → Type 0
  NodePlaced s x t = Placed (NodeStands step is_place s x t) (NodeFails s x)

  abbrev pub ItemPlaced : ℕ → S → Branch → Result (Unit {0}) PlaceError → Type 0
  ItemPlaced place s item = Placed (ItemStands step is_place s item) (ItemFails place s item)

  abbrev pub JoinPlaced : ℕ → S → Branch → Result (Unit {0}) PlaceError → Type 0
  JoinPlaced place s join = Placed (JoinStands step is_place s join) (JoinFails place s join)

  abbrev pub FillPlaced : ℕ → S → Spec → Result (Unit {0}) PlaceError → Type 0
  FillPlaced place s spec = Placed (FillStays step s spec spec.width) (FillFails place s spec)

  abbrev pub ForestPlaced : S → Forest → S → Result (Unit {0}) PlaceError → Type 0
  ForestPlaced s xs t = Placed (ForestStands step is_place s xs t) (ForestFails s xs)

-- ---- by the escape, from the beginning of a text on

-- the values of a text stand in places of an escape
abbrev pub StandsFor : Escape → At → Type 0
StandsFor Line a = Stands control_step everywhere tt a tt
StandsFor Html a = (t : HtmlState) × Stands html_step is_html_place html_start a t
StandsFor Csv a = (t : CsvState) × Stands csv_step is_csv_place field_start a t
StandsFor Json a = (t : JsonState) × Stands json_step is_json_place between a t
StandsFor Shell a = (t : ShellState) × Stands shell_step is_shell_place outside a t

-- they do, and the text ends there
abbrev pub EndsFor : Escape → At → Ending → Type 0
EndsFor Line = Ends control_step everywhere tt
EndsFor Html = Ends html_step is_html_place html_start
EndsFor Csv = Ends csv_step is_csv_place field_start
EndsFor Json = Ends json_step is_json_place between
EndsFor Shell = Ends shell_step is_shell_place outside

-- the first that does not
abbrev pub FailsFor : Escape → At → Misplaced → Type 0
FailsFor Line = Fails control_step everywhere tt
FailsFor Html = Fails html_step is_html_place html_start
FailsFor Csv = Fails csv_step is_csv_place field_start
FailsFor Json = Fails json_step is_json_place between
FailsFor Shell = Fails shell_step is_shell_place outside

-- the structure of a text, as the escape's reader reads it: of a line, its controls
abbrev pub structure_by : Escape → List ℕ → List ℕ
structure_by Line cs = structure_of (read control_step tt cs)
structure_by Html cs = structure_of (read html_step html_start cs)
structure_by Csv cs = structure_of (read csv_step field_start cs)
structure_by Json cs = structure_of (read json_step between cs)
structure_by Shell cs = structure_of (read shell_step outside cs)

-- the structure of what a format means
abbrev pub structure_for : Escape → Meaning → List ℕ
structure_for escape m = structure_by escape (text_of m.text)
