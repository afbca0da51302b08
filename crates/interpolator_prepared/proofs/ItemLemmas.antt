-- Lists of a prepared format: what writing their items, and the texts around these, leaves.
use Rattle.std.proofs.Common.{◌≡◌, ◌∙◌, refl, sym, ap, arith, ℕ, ◌+◌, ◌<◌, List, [], ◌∷◌, ◌++◌}
use Rattle.std.proofs.Common.{length, drop, map, get_or, Bool, true, false, Option, None, Some}
use Rattle.std.proofs.Common.{IsSome, subst}
use Rattle.std.proofs.{lemmas.List.drop_more, lemmas.Str.chars-nil}
use Rattle.std.specs.Prelude.{◌==◌, is_some, string_bytes}
use Rattle.std.specs.Str.{chars}
use Rattle.interpolator_render.specs.{declared.view.Spec.Spec, declared.view.Trait.Trait}
use Rattle.interpolator_render.specs.{Views.Shown, Writers.Written}
use Rattle.interpolator_syntax.specs.Faults.{Answer, answer_of}
use Rattle.interpolator_syntax.specs.{Places.Placed, declared.error.Error.Error}
use Rattle.interpolator_eval.specs.Meaning.Environments.{Environment, bind}
use Rattle.interpolator_eval.specs.Meaning.Lists.{IsChosen, IsNotChosen, list_under_name}
use Rattle.interpolator_eval.specs.Meaning.Meanings.{Meaning, text_alone, chain, items_after}
use Rattle.interpolator_eval.specs.Meaning.Meanings.{items_mean}
use Rattle.interpolator_eval.specs.{Slots.Slots, Meaning.Outcomes.Outcome}
use Rattle.interpolator_eval.proofs.MeaningLemmas.MeaningLemmas.{joined_assoc, joined_none}
use Rattle.interpolator_eval.proofs.MeaningLemmas.MeaningLemmas.{nothing_last}
use Rattle.interpolator_eval.proofs.MeaningLemmas.SinkLemmas.{nothing_done}
use Rattle.interpolator_pieces.specs.Stored.{part}
use Rattle.interpolator_pieces.proofs.WholePieceLemmas.{both}
use Rattle.interpolator_prepared.specs.Items.{items_within, parts_mean, placed_eq, value_under}
use Rattle.interpolator_prepared.specs.StoredSteps.{compiled_list, fitting_means, joined_text}
use Rattle.interpolator_prepared.specs.StoredSteps.{list_fits, stored_format, stored_join}
use Rattle.interpolator_prepared.specs.declared.{step.ListStep.ListStep, step.JoinedText.JoinedText}
use Rattle.interpolator_prepared.specs.declared.step.ValueSpec.{ValueSpec}
use Rattle.interpolator_prepared.proofs.JoinedLemmas.{equal_numbers}
use Rattle.interpolator_prepared.proofs.ListMeaningLemmas.{characters_alone, characters_before}
use Rattle.interpolator_prepared.proofs.ListMeaningLemmas.{items_same}

-- ---- items one by one

-- from an item on: it, and the items after it
pub next_item : {F X : Type 0} (slots : F → X) (xs : List F) (i : ℕ) (x : F) → i < length xs
    → x ≡ get_or xs i x → map slots (drop i xs) ≡ slots x ∷ map slots (drop (i + 1) xs)
next_item slots xs i x h is = rw (drop_more xs i x h, ← is) refl

-- ---- the texts around items

no_bytes : (bs : List ℕ) → length bs ≡ 0 → bs ≡ []
no_bytes [] h = refl
no_bytes (b ∷ bs) h = absurd (omega (arith, h))

-- a name without bytes is empty
pub empty_name : (bs : List ℕ) (b : Bool) → b ≡ (length bs == 0) → b ≡ true → chars bs ≡ []
empty_name bs b is test =
    ap chars (no_bytes bs (equal_numbers (length bs) 0 (sym is ∙ test))) ∙ chars-nil

-- joined text without bytes has no characters
pub empty_text : (x : JoinedText) (bs : List ℕ) (b : Bool) → bs ≡ string_bytes x.text
    → b ≡ (length bs == 0) → b ≡ true → joined_text x ≡ []
empty_text x bs b same is test = rw (← same, empty_name bs b is test) refl

module _ {F X : Type 0} (shows : X → Trait → Spec → Shown) (slots : F → Slots X)
    (list : ListStep) where
  abbrev Within : List F → Meaning
  Within xs =
      items_within shows list.value (joined_text list.before) (joined_text list.between)
      (joined_text list.after) (map slots xs)

  -- of no items nothing is written
  pub none_within : (xs : List F) (b : Bool) → b ≡ (length xs == 0) → b ≡ true → (s : Written)
      → Outcome (Within xs) s s None
  none_within [] b is test s = nothing_done s
  none_within (x ∷ xs) b is test s =
      absurd (omega (arith, equal_numbers (length (x ∷ xs)) 0 (sym is ∙ test)))

  -- of some, the text before them, they, and the text after them
  pub some_within : (xs : List F) (b : Bool) → b ≡ (length xs == 0) → b ≡ false
      → Within xs
      ≡ chain (text_alone (joined_text list.before)) (chain
      (items_mean (text_alone (joined_text list.between)) (value_under shows list.value) (map slots xs))
      (text_alone (joined_text list.after)))
  some_within [] b is test = absurd (let e : true ≡ false = sym is ∙ test in cc)
  some_within (x ∷ xs) b is test = refl

-- an item between texts, and items with a join between two of them
module _ {X : Type 0} (value : Slots X → Meaning) (before join after : Placed) where
  abbrev One : Slots X → Meaning
  One found = chain (text_alone before) (chain (value found) (text_alone after))

  abbrev Between : Meaning
  Between = text_alone ((after ++ join) ++ before)

  one_before : (x : Slots X) (rest later : Meaning)
      → chain (text_alone after) rest ≡ chain later (text_alone after)
      → chain (One x) rest
      ≡ chain (text_alone before) (chain (value x) (chain later (text_alone after)))
  one_before x rest later same =
      joined_assoc (text_alone before) (chain (value x) (text_alone after)) rest
      ∙ ap (chain (text_alone before))
      (joined_assoc (value x) (text_alone after) rest ∙ ap (chain (value x)) same)

  -- the text after an item goes with the join and the text before the next
  turned_after : (xs : List (Slots X))
      → chain (text_alone after) (items_after (text_alone join) One xs)
      ≡ chain (items_after Between value xs) (text_alone after)
  turned_after [] = nothing_last (text_alone after) ∙ sym (joined_none (text_alone after))
  turned_after (x ∷ xs) =
      let a = text_alone after in
      let j = text_alone join in
      let b = text_alone before in
      let rest = items_after j One xs in
      let later = items_after Between value xs in
      ap (λ m. chain a (chain j m)) (one_before x rest later (turned_after xs))
      ∙ sym (joined_assoc a j (chain b (chain (value x) (chain later a))))
      ∙ sym (joined_assoc (chain a j) b (chain (value x) (chain later a)))
      ∙ ap (chain Between) (sym (joined_assoc (value x) later a))
      ∙ sym (joined_assoc Between (chain (value x) later) a)

module _ {X : Type 0} (shows : X → Trait → Spec → Shown) (asked : ValueSpec)
    (before join after : Placed) where
  turned : (xs : List (Slots X))
      → items_mean (text_alone join) (One (value_under shows asked) before join after) xs
      ≡ items_within shows asked before ((after ++ join) ++ before) after xs
  turned [] = refl
  turned (x ∷ xs) =
      let value = value_under shows asked in
      let later = items_after (Between value before join after) value xs in
      one_before value before join after x
      (items_after (text_alone join) (One value before join after) xs) later
      (turned_after value before join after xs)
      ∙ ap (chain (text_alone before)) (sym (joined_assoc (value x) later (text_alone after)))

-- ---- lists

pub same_placed : (xs ys : Placed) → placed_eq xs ys ≡ true → xs ≡ ys
same_placed [] [] h = refl
same_placed [] (y ∷ ys) h = absurd (cc)
same_placed (x ∷ xs) [] h = absurd (cc)
same_placed (x ∷ xs) (y ∷ ys) h = grind (arith, same_placed xs ys, h)

-- a stored list that fits the format is a step under its name
pub record Compiled (bs : List ℕ) (x : ListStep) : Type 0 where
  pub fits : list_fits x ≡ true
  pub name : IsSome (part bs x.name.from x.name.to)

pub compiled_fits : (bs : List ℕ) (x : ListStep) → IsSome (compiled_list bs x) → Compiled bs x
compiled_fits bs x h = record { fits = grind (arith, h); name = grind (arith, h) }

module _ {X : Type 0} (shows : X → Trait → Spec → Shown) (e : Environment X)
    (value_at : ℕ → Option (Slots X)) (bs : List ℕ) (x : ListStep) (name : List ℕ)
    (fits : list_fits x ≡ true) (is : Some name ≡ part bs x.name.from x.name.to) where
  abbrev Listed : Meaning
  Listed =
      list_under_name e name x.start x.range x.spec x.end
      (parts_mean shows e (stored_format name x).join)
      (λ found. parts_mean shows (bind e found) (stored_format name x).item)

  step_means_list : Listed ≡ fitting_means shows e value_at (compiled_list bs x)
  step_means_list = rw (fits, ← is) refl

  item_means : (found : Slots X)
      → parts_mean shows (bind e found) (stored_format name x).item
      ≡ One (value_under shows x.value) (joined_text x.before) (stored_join x) (joined_text x.after) found
  item_means found =
      characters_before shows (bind e found) (joined_text x.before) _
      ∙ ap (λ m. chain (text_alone (joined_text x.before)) (chain (value_under shows x.value found) m))
      (characters_alone shows (bind e found) (joined_text x.after))

  stored_items : (xs : List (Slots X))
      → items_mean (parts_mean shows e (stored_format name x).join)
      (λ found. parts_mean shows (bind e found) (stored_format name x).item) xs
      ≡ items_within shows x.value (joined_text x.before) (joined_text x.between) (joined_text x.after) xs
  stored_items xs =
      let between = same_placed _ _ (both _ _ fits).1 in
      items_same _ _ _ _ (characters_alone shows e (stored_join x)) item_means xs
      ∙ turned shows x.value (joined_text x.before) (stored_join x) (joined_text x.after) xs
      ∙ ap (λ t. items_within shows x.value (joined_text x.before) t (joined_text x.after) xs) (sym between)

  -- nothing of the list is written
  pub list_refused : (s : Written) (error : Error) (f : Environment X) → f ≡ e
      → IsNotChosen f name x.start x.range x.spec x.end error
      → Outcome (fitting_means shows e value_at (compiled_list bs x)) s s (Some (answer_of error))
  list_refused s error f same k =
      let h = subst (λ g. IsNotChosen g name x.start x.range x.spec x.end error) same k in
      rw (← step_means_list)
      (h (parts_mean shows e (stored_format name x).join)
      (λ found. parts_mean shows (bind e found) (stored_format name x).item) s)

  -- its chosen items are, with the texts around them
  pub list_written : (chosen : List (Slots X)) (s t : Written) (answer : Option Answer)
      (f : Environment X) → f ≡ e → IsChosen f name x.start x.range x.spec x.end chosen
      → Outcome (items_within shows x.value (joined_text x.before) (joined_text x.between)
      (joined_text x.after) chosen) s t answer
      → Outcome (fitting_means shows e value_at (compiled_list bs x)) s t answer
  list_written chosen s t answer f env k o =
      let h = subst (λ g. IsChosen g name x.start x.range x.spec x.end chosen) env k in
      let none : is_some x.spec.width ≡ false = grind (arith, fits) in
      let same : Listed
      ≡ items_within shows x.value (joined_text x.before) (joined_text x.between) (joined_text x.after) chosen =
      h (parts_mean shows e (stored_format name x).join)
      (λ found. parts_mean shows (bind e found) (stored_format name x).item)
      ∙ rw none (stored_items chosen) in
      rw (← step_means_list, same) o
