-- How the code stores a program.
use Rattle.std.specs.Prelude.{ℕ, suc, ◌+◌, ◌-◌, nat_lt, ◌==◌, if◌then◌else◌, List, [], ◌∷◌, ◌++◌}
use Rattle.std.specs.Prelude.{Bool, true, false, unwrap_or, length, map, Option, Some, None}
use Rattle.std.specs.Prelude.{option_map, string_bytes, ◌&&◌, not, is_some, take, drop, IsSome, ⊤}
use Rattle.std.specs.Str.{chars}
use Rattle.interpolator_render.specs.declared.view.Trait.{Trait}
use Rattle.interpolator_render.specs.declared.view.Trait.TheVariants as traits
use Rattle.interpolator_render.specs.{declared.view.Spec.Spec, Views.Shown}
use Rattle.interpolator_syntax.specs.Faults.{Answer, fault, missing_trait_impl, fmt}
use Rattle.interpolator_syntax.specs.{Places.Placed, Places.placed_from, SpecTexts.plain_spec}
use Rattle.interpolator_syntax.specs.{Nodes.Node}
use Rattle.interpolator_eval.specs.Meaning.Meanings.{Meaning, nothing, chain}
use Rattle.interpolator_eval.specs.declared.evaluate.sink.WriteFault.TheVariants.{MissingTraitImpl}
use Rattle.interpolator_eval.specs.declared.evaluate.sink.WriteFault.TheVariants.{Fmt}
use Rattle.interpolator_eval.specs.{Slots.Slots, Meaning.Environments.Environment}
use Rattle.interpolator_eval.specs.declared.evaluate.sink.WriteFault.{WriteFault}
use Rattle.interpolator_pieces.specs.Stored.{detail_of, part, node_of, node_whole}
use Rattle.interpolator_pieces.specs.{StoredMeanings.stored_part, declared.piece.Form.Form}
use Rattle.interpolator_pieces.specs.declared.piece.Form.TheVariants as forms
use Rattle.interpolator_pieces.specs.declared.piece.Piece.{Piece}
use Rattle.interpolator_syntax.specs.declared.piece_kind.PieceKind.TheVariants as kinds
use Rattle.interpolator_prepared.specs.Items.{ListFormat, characters, item_value, placed_eq}
use Rattle.interpolator_prepared.specs.Programs.{Instruction, text_step, value_step, list_step}
use Rattle.interpolator_prepared.specs.Programs.{step_means, argument_step, node_position}
use Rattle.interpolator_prepared.specs.Programs.{whole_step}
use Rattle.interpolator_prepared.specs.declared.step.JoinedText.{JoinedText}
use Rattle.interpolator_prepared.specs.{declared.step.ListStep.ListStep, declared.step.Part.Part}
use Rattle.interpolator_prepared.specs.{declared.step.ValueSpec.ValueSpec, declared.step.Step.Step}
use Rattle.interpolator_prepared.specs.declared.step.Step.TheVariants as steps

-- how many bytes some parts of a format have together
abbrev pub parts_size : List Part → ℕ
parts_size [] = 0
parts_size (x ∷ xs) = (x.to - x.from) + parts_size xs

-- the place in the format of a byte of joined parts
abbrev pub joined_place : List Part → ℕ → ℕ
joined_place [] offset = offset
joined_place (x ∷ xs) offset =
    if nat_lt offset (x.to - x.from) then x.from + offset
    else joined_place xs (offset - (x.to - x.from))

-- the same of a row that has `size` bytes of joined parts, and behind them a value at `end`
abbrev pub row_place : List Part → (size end : ℕ) → ℕ → ℕ
row_place parts size end offset = if nat_lt offset size then joined_place parts offset else end

-- characters, each moved to another place
abbrev pub placed_by : (ℕ → ℕ) → Placed → Placed
placed_by place xs = map (λ x. (x.0, place x.1)) xs

-- the characters of joined text, each at its place in the format
abbrev pub joined_placed : List Part → List ℕ → Placed
joined_placed parts bytes = placed_by (joined_place parts) (placed_from 0 (chars bytes))

-- the step of joined text, if its parts have as many bytes as it has
abbrev pub joined_step : List Part → List ℕ → Option Instruction
joined_step parts bytes =
    if parts_size parts == length bytes then Some (text_step (joined_placed parts bytes)) else None

-- the characters of a joined text
abbrev pub joined_text : JoinedText → Placed
joined_text x = joined_placed x.parts.items (string_bytes x.text)

-- what of the text between two items lies after the text that ends an item, and before the text
-- that begins one
abbrev pub join_within : (after between before : Placed) → Placed
join_within after between before =
    take (length between - (length after + length before)) (drop (length after) between)

-- the join of a list
abbrev pub stored_join : ListStep → Placed
stored_join x = join_within (joined_text x.after) (joined_text x.between) (joined_text x.before)

-- the list that is stored, under a name
abbrev pub stored_format : (name : List ℕ) → ListStep → ListFormat
stored_format name x = record {
  kind = kinds.Closed;
  start = x.start;
  name = name;
  range = x.range;
  spec = x.spec;
  end = x.end;
  item =
      characters (joined_text x.before)
      ++ (item_value kinds.Closed x.value.slot x.value.spec x.value.end
      ∷ characters (joined_text x.after));
  join = characters (stored_join x);
}

-- between two items lie the end of the first, the join and the beginning of the second, and the
-- list has no width
abbrev pub list_fits : ListStep → Bool
list_fits x =
    not (is_some x.spec.width) && placed_eq (joined_text x.between)
    ((joined_text x.after ++ stored_join x) ++ joined_text x.before)

-- the step of a list, if it fits the format
abbrev pub compiled_list : List ℕ → ListStep → Option Instruction
compiled_list bs x =
    if list_fits x
    then option_map (λ name. list_step (stored_format name x)) (part bs x.name.from x.name.to)
    else None

-- the step of a node that is kept, if its stored piece fits the format
abbrev pub kept_step : Node → Option Instruction
kept_step x = if node_whole x then Some (whole_step x) else None

-- the step of bytes of the format, if it may be cut there
abbrev pub literal_step : List ℕ → (from to : ℕ) → Option Instruction
literal_step bs from to =
    option_map (λ cs. text_step (placed_from from cs)) (part bs from to)

-- the step of a value that is displayed plainly
abbrev pub plain_step : (position end : ℕ) → Instruction
plain_step position end = value_step position traits.Display plain_spec end

-- the step of a value under a trait and a spec
abbrev pub asked_step : (position : ℕ) → ValueSpec → Instruction
asked_step position asked = value_step position asked.slot asked.spec asked.end

-- what a stored step of a format stands for, if that is one instruction and fits the format
abbrev pub step_of : List ℕ → Step → Option Instruction
step_of bs (steps.Literal from to) = literal_step bs from to
step_of bs (steps.Joined x) = joined_step x.value.parts.items (string_bytes x.value.text)
step_of bs (steps.Plain position end) = Some (plain_step position end)
step_of bs (steps.Value position asked) = Some (asked_step position asked.value)
step_of bs (steps.List x) = compiled_list bs x.value
step_of bs (steps.Kept x) = kept_step (node_of bs x.value)
step_of bs _ = None

-- what it stands for, in order: text and a value, or one instruction
abbrev pub steps_of : List ℕ → Step → List (Option Instruction)
steps_of bs (steps.LiteralPlain x position end) =
    literal_step bs x.from x.to ∷ (Some (plain_step position end) ∷ [])
steps_of bs (steps.LiteralValue x position asked) =
    literal_step bs x.from x.to ∷ (Some (asked_step position asked.value) ∷ [])
steps_of bs (steps.JoinedPlain x position end) =
    joined_step x.value.parts.items (string_bytes x.value.text)
    ∷ (Some (plain_step position end) ∷ [])
steps_of bs step = step_of bs step ∷ []

-- whether all instructions fit their format
abbrev pub Fit : List (Option Instruction) → Type 0
Fit [] = ⊤
Fit (step ∷ steps) = IsSome step × Fit steps

-- whether a step looks a name up
abbrev pub looks_up : Step → Bool
looks_up (steps.List x) = true
looks_up (steps.Kept x) = true
looks_up _ = false

-- a form is text
abbrev pub is_text_form : Form → Bool
is_text_form forms.Text = true
is_text_form form = false

-- a stored piece is text
abbrev pub is_text : Piece → Bool
is_text x = is_text_form (detail_of x).form

-- how many pieces of text are at the beginning of some pieces
abbrev pub text_count : List Piece → ℕ
text_count [] = 0
text_count (x ∷ xs) = if is_text x then suc (text_count xs) else 0

-- how many pieces of text follow a piece, if that is text too
abbrev pub texts_after : Piece → List Piece → ℕ
texts_after x xs = if is_text x then text_count xs else 0

-- the characters of pieces of text, one after the other
abbrev pub texts_placed : List ℕ → List Piece → Placed
texts_placed bs [] = []
texts_placed bs (x ∷ xs) =
    placed_from (detail_of x).from (unwrap_or (stored_part bs x) []) ++ texts_placed bs xs

-- the step of a piece: with the text after it, if it is text
abbrev pub first_step : List ℕ → (names : List (List ℕ)) → Piece → (texts : List Piece) → Instruction
first_step bs names x texts =
    if is_text x then text_step (texts_placed bs (x ∷ texts))
    else argument_step names (node_position names (node_of bs x)) (node_of bs x)

-- the fault of a write that failed, with the place of a refused text moved
abbrev pub moved_fault : (ℕ → ℕ) → WriteFault → Answer
moved_fault place (MissingTraitImpl wanted end) = fault (missing_trait_impl wanted end)
moved_fault place (Fmt offset) = fault (fmt (place offset))

module _ {X : Type 0} (shows : X → Trait → Spec → Shown) (e : Environment X)
    (value_at : ℕ → Option (Slots X)) where
  -- what a step means, if it fits its format
  abbrev pub fitting_means : Option Instruction → Meaning
  fitting_means None = nothing
  fitting_means (Some step) = step_means shows e value_at step

  -- what instructions mean in order, up to the first fault
  abbrev pub all_mean : List (Option Instruction) → Meaning
  all_mean [] = nothing
  all_mean (step ∷ []) = fitting_means step
  all_mean (step ∷ (next ∷ steps)) = chain (fitting_means step) (all_mean (next ∷ steps))

  -- what a stored step means
  abbrev pub stored_step_means : List ℕ → Step → Meaning
  stored_step_means bs step = all_mean (steps_of bs step)

  -- stored steps in order, up to the first fault
  abbrev pub stored_steps_mean : List ℕ → List Step → Meaning
  stored_steps_mean bs [] = nothing
  stored_steps_mean bs (step ∷ steps) =
      chain (stored_step_means bs step) (stored_steps_mean bs steps)
