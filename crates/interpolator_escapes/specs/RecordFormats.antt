-- Formats of whole fields of CSV: where a value may stand in one, and what is read of it.
use Rattle.std.specs.Prelude.{◌≡◌, ⊤, ℕ, Bool, true, false, ◌&&◌, not, ◌==◌, map, List, [], ◌∷◌}
use Rattle.std.specs.Prelude.{◌++◌, codes, Option, Some, None, Result, Ok, Err, if◌then◌else◌}
use Rattle.interpolator_render.specs.declared.view.Trait.TheVariants.{Debug, Display}
use Rattle.interpolator_render.specs.{declared.view.Spec.Spec, declared.view.Trait.Trait}
use Rattle.interpolator_render.specs.Views.{Shown}
use Rattle.interpolator_eval.specs.Meaning.Environments.{Environment}
use Rattle.interpolator_eval.specs.Slots.{Slots, slot_at, values_of}
use Rattle.interpolator_syntax.specs.Nodes.{Node, node, Branch, no_branch, branch, as_forest}
use Rattle.interpolator_syntax.specs.Nodes.{Forest, no_nodes, nodes_and, nodes, text_content}
use Rattle.interpolator_syntax.specs.Nodes.{argument_content, fault_content, target_value}
use Rattle.interpolator_syntax.specs.Nodes.{target_list}
use Rattle.interpolator_syntax.specs.{Places.At, SpecTexts.plain_spec}
use Rattle.interpolator_escapes.specs.Csv.{CsvState, field_start, bare, quoted, quote_seen}
use Rattle.interpolator_escapes.specs.Csv.{csv_step, ends_field}
use Rattle.interpolator_escapes.specs.FormatParts.{as_it_is, parts_of, view_parts}
use Rattle.interpolator_escapes.specs.Parts.{Part, literal, value}
use Rattle.interpolator_escapes.specs.Readers.{Token, content, structure, state_after, read}
use Rattle.interpolator_escapes.specs.declared.ending.Ending.TheVariants.{Beginning, Place}
use Rattle.interpolator_escapes.specs.declared.ending.Ending.TheVariants.{Elsewhere}
use Rattle.interpolator_escapes.specs.declared.{ending.Ending.Ending, misplaced.Misplaced.Misplaced}
use Rattle.interpolator_escapes.specs.declared.misplaced.PlaceError.{PlaceError}
use Rattle.interpolator_escapes.specs.{Fields.field_value, Fields.record_value, Plain.is_debug}
use Rattle.interpolator_escapes.specs.{Plain.is_bare, Records.text_or_empty}
use Rattle.interpolator_escapes.specs.declared.misplaced.PlaceError.TheVariants as errors
use Rattle.interpolator_escapes.specs.declared.misplaced.Why.{Why}
use Rattle.interpolator_escapes.specs.declared.misplaced.Why.TheVariants.{Value, Item, Join}

-- where a record is: in a state of its reader, or after a whole field that begins at this byte of
-- the format, which is before a comma or the end of the record
pub data Spot : Type 0 where
  in_state : CsvState → Spot
  field_end : (place : ℕ) → Spot

-- what begins at this byte, or what comes after it, is not where it may be
abbrev pub misplaced_by : (place : ℕ) → Why → Result Spot Misplaced
misplaced_by place why = Err (record { place = place; why = why })

abbrev pub misplaced_at : (place : ℕ) → Result Spot Misplaced
misplaced_at place = misplaced_by place Value

-- after a literal: behind a whole field it begins with a comma or the end of a record
abbrev pub after_literal : Spot → List ℕ → Result Spot Misplaced
after_literal (in_state s) cs = Ok (in_state (state_after csv_step s cs))
after_literal (field_end place) [] = Ok (field_end place)
after_literal (field_end place) (c ∷ cs) =
    if ends_field c then Ok (in_state (state_after csv_step quote_seen (c ∷ cs)))
    else misplaced_at place

-- a whole field stands where a field begins, under debug, if a number is plain so
abbrev pub is_field_place : Spot → Trait → Spec → Bool
is_field_place (in_state field_start) t spec = is_debug t && is_bare spec
is_field_place _ t spec = false

-- any other value stands between quotes
abbrev pub is_quoted_place : Spot → Trait → Bool
is_quoted_place (in_state quoted) t = not (is_debug t)
is_quoted_place _ t = false

abbrev pub after_value : (place : ℕ) → Spot → Trait → Spec → Result Spot Misplaced
after_value place s t spec =
    if is_field_place s t spec then Ok (field_end place) else
    (if is_quoted_place s t then Ok s else misplaced_at place)

-- a reader that may be here may be there
abbrev pub same_state : CsvState → CsvState → Bool
same_state field_start field_start = true
same_state bare bare = true
same_state quoted quoted = true
same_state quote_seen quote_seen = true
same_state _ _ = false

abbrev pub covers : (there here : Spot) → Bool
covers (in_state t) (in_state s) = same_state t s
covers (in_state t) (field_end place) = false
covers (field_end there) (in_state s) = not (same_state quoted s)
covers (field_end there) (field_end here) = true

-- as what comes before it allows
abbrev pub and_then : Result Spot Misplaced → (Spot → Result Spot Misplaced) → Result Spot Misplaced
and_then (Ok s) next = next s
and_then (Err m) next = Err m

-- the items of a list go from s to t, and what is between two of them from t to u: without any
-- item, the record stays at s, and after what is between two it is back there. It has no width
abbrev pub item_end : (place : ℕ) → (s t : Spot) → Result Spot Misplaced
item_end place s t = if covers t s then Ok t else misplaced_by place Item

abbrev pub join_end : (place : ℕ) → (s t u : Spot) → Result Spot Misplaced
join_end place s t u = if covers s u then Ok t else misplaced_by place Join

abbrev pub list_end : (place : ℕ) → Option ℕ → Spot → Result Spot Misplaced
list_end place None t = Ok t
list_end place (Some width) t = misplaced_at place

abbrev mutual
  -- where a record is after a piece; or the first value or list that does not stand
  pub after_node : Spot → Node → Result Spot Misplaced
  after_node s (node place end kind None item join) = Ok s
  after_node s (node place end kind (Some (text_content from cs)) item join) = after_literal s cs
  after_node s (node place end kind (Some (fault_content f)) item join) = Ok s
  after_node s (node place end kind (Some (argument_content start name spec (target_value t) q))
      item join) =
      after_value place s t spec
  after_node s (node place end kind (Some (argument_content start name spec (target_list range) q))
      item join) =
      and_then (and_then (after_item place s item) (item_end place s))
      (λ t. and_then (and_then (after_join t join) (join_end place s t))
      (list_end place spec.width))

  -- after an item
  pub after_item : (place : ℕ) → Spot → Branch → Result Spot Misplaced
  after_item place s no_branch = after_value place s Display plain_spec
  after_item place s (branch xs) = after_forest s xs

  -- after what is between two items
  pub after_join : Spot → Branch → Result Spot Misplaced
  after_join s no_branch = Ok s
  after_join s (branch xs) = after_forest s xs

  -- after pieces
  pub after_forest : Spot → Forest → Result Spot Misplaced
  after_forest s no_nodes = Ok s
  after_forest s (nodes_and x xs) = and_then (after_node s x) (λ t. after_forest t xs)

-- after a format
abbrev pub after_record : At → Result Spot Misplaced
after_record a = after_forest (in_state field_start) (as_forest (nodes a))

-- each of its values stands
abbrev pub StandsAsRecord : At → Type 0
StandsAsRecord a = (t : Spot) × (after_record a ≡ Ok t)

-- where a record is that began where a field does
abbrev pub spot_ending : Spot → Ending
spot_ending (in_state field_start) = Beginning
spot_ending (in_state quoted) = Place
spot_ending _ = Elsewhere

abbrev pub record_answer : Result Spot Misplaced → Result Ending PlaceError
record_answer (Ok s) = Ok (spot_ending s)
record_answer (Err m) = Err (errors.Misplaced m)

-- what a check answers, unless memory ran out
abbrev pub IsRecordAnswer : Result Ending PlaceError → Result Spot Misplaced → Type 0
IsRecordAnswer (Err errors.NoMemory) what = ⊤
IsRecordAnswer answer what = answer ≡ record_answer what

-- ---- what is read

-- without the quotes around fields
abbrev pub without_quotes : List Token → List Token
without_quotes [] = []
without_quotes (content c ∷ ts) = content c ∷ without_quotes ts
without_quotes (structure c ∷ ts) =
    if c == 34 then without_quotes ts else structure c ∷ without_quotes ts

-- the parts of a format, of which a value is the text that comes back
abbrev pub record_values : {X : Type 0} → (shows : X → Trait → Spec → Shown) → X → Trait → Spec
    → List Part
record_values shows x t spec = view_parts (record_value (shows x t spec) t spec)

abbrev pub record_parts : {X : Type 0} → (shows : X → Trait → Spec → Shown) → Environment X → At
    → List Part
record_parts shows e a = parts_of as_it_is (record_values shows) e a

-- a value where a field begins is all of it
abbrev pub past_value : CsvState → CsvState
past_value field_start = quote_seen
past_value s = s

-- what is read in the literals, with the characters of each value as content between them
abbrev pub fields_read : CsvState → List Part → List Token
fields_read s [] = []
fields_read s (literal cs ∷ parts) =
    without_quotes (read csv_step s cs) ++ fields_read (state_after csv_step s cs) parts
fields_read s (value cs ∷ parts) = map content cs ++ fields_read (past_value s) parts

-- ---- a list as a record

-- the items of `row`, each as a whole field, with a comma between two
abbrev pub fields_format : List ℕ
fields_format = codes "{row:i({:?})(,)}"

module _ {X : Type 0} (shows : X → Trait → Spec → Shown) where
  -- what comes back of a whole field, nothing if there is nothing
  abbrev pub field_shown : Option X → List ℕ
  field_shown None = []
  field_shown (Some x) = text_or_empty (field_value (shows x Debug plain_spec) plain_spec)

  -- what comes back of an item
  abbrev pub item_field : Slots X → List ℕ
  item_field item = field_shown (slot_at Debug (values_of item))
