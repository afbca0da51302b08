-- What is written for stored steps with a row is what their format means.
use Rattle.std.proofs.Common.{◌≡◌, ◌∙◌, refl, sym, ap, ℕ, ◌<◌, ◌≤◌, List, length, map, Option, None}
use Rattle.std.proofs.Common.{Some, get_or, option_map}
use Rattle.std.proofs.lemmas.{Option.slice_get_past, Option.slice_get_read, Str.encodes-chars}
use Rattle.std.specs.Prelude.{String, slice_get, flat_map}
use Rattle.std.specs.{Str.chars, Str.IsUtf8, Option.option_and_then}
use Rattle.interpolator_render.specs.{declared.view.Trait.Trait, declared.view.Spec.Spec}
use Rattle.interpolator_render.specs.{Views.Shown, Writers.Written}
use Rattle.interpolator_syntax.specs.{Places.outermost, Faults.Answer, Nodes.nodes}
use Rattle.interpolator_eval.specs.{Slots.Slots, Meaning.Environments.environment}
use Rattle.interpolator_eval.specs.{Meaning.Meanings.means, Meaning.Outcomes.Outcome}
use Rattle.interpolator_prepared.specs.Rows.{InOrder, found_by_row, name_bytes, last_position}
use Rattle.interpolator_prepared.specs.StoredSteps.{steps_of, stored_steps_mean}
use Rattle.interpolator_prepared.specs.{Programs.program, declared.step.Step.Step}
use Rattle.interpolator_prepared.proofs.{ProgramLemmas.program_means, StepLemmas.program_stored}

-- a row of what has a tree each
module _ {A X : Type 0} (tree : A → Slots X) where
  abbrev At : List A → ℕ → Option (Slots X)
  At row k = option_map tree (slice_get row k)

  -- the tree at a position
  item_at : (row : List A) (k : ℕ) (x : A) → k < length row → x ≡ get_or row k x
      → At row k ≡ Some (tree x)
  item_at row k x h is = ap (option_map tree) (slice_get_read row (length row) k x refl h is)

  none_at : (row : List A) (k : ℕ) → length row ≤ k → At row k ≡ None
  none_at row k h = ap (option_map tree) (slice_get_past row k h)

  -- what it gives under a name
  module _ {Z : Type 0} (names : List (String Z)) (row : List A) (key : List ℕ)
      (utf8 : IsUtf8 key) where
    abbrev Found : Option (Slots X)
    Found = found_by_row (name_bytes names) (At row) (chars key)

    found_at : (o : Option ℕ) → o ≡ last_position (name_bytes names) key
        → option_and_then (At row) o ≡ Found
    found_at o is =
        ap (option_and_then (At row)) is
        ∙ ap (λ bs. option_and_then (At row) (last_position (name_bytes names) bs))
        (sym (encodes-chars key utf8))

    pub row_found : (k : ℕ) (x : A) → Some k ≡ last_position (name_bytes names) key
        → k < length row → x ≡ get_or row k x → Some (tree x) ≡ Found
    row_found k x is h at = sym (item_at row k x h at) ∙ found_at (Some k) is

    pub row_short : (k : ℕ) → Some k ≡ last_position (name_bytes names) key → length row ≤ k
        → None ≡ Found
    row_short k is h = sym (none_at row k h) ∙ found_at (Some k) is

    pub row_absent : None ≡ last_position (name_bytes names) key → None ≡ Found
    row_absent is = found_at None is

-- stored steps that stand for the program of a text write what the text means
pub row_outcome :
    {X : Type 0} (shows : X → Trait → Spec → Shown) (finds : List ℕ → Option (Slots X))
    (names : List (List ℕ)) (value_at : ℕ → Option (Slots X)) (bs : List ℕ) (steps : List Step)
    (old new : Written) (answer : Option Answer) → InOrder names value_at finds
    → flat_map (steps_of bs) steps ≡ map Some (program names (nodes (outermost (chars bs))))
    → Outcome (stored_steps_mean shows (environment finds) value_at bs steps) old new answer
    → Outcome (means shows (environment finds) (outermost (chars bs))) old new answer
row_outcome shows finds names value_at bs steps old new answer order stands o =
    let e = environment (found_by_row names value_at) in
    let a = outermost (chars bs) in
    let same : stored_steps_mean shows (environment finds) value_at bs steps
    ≡ means shows (environment finds) a =
    ap (λ f. stored_steps_mean shows (environment f) value_at bs steps) order.same
    ∙ program_stored shows e value_at bs steps (program names (nodes a)) stands
    ∙ program_means shows names value_at order.reached (nodes a)
    ∙ ap (λ f. means shows (environment f) a) (sym order.same) in
    rw same at o
