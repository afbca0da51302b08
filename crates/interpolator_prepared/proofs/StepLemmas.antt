-- What stored steps mean, one after the other.
use Rattle.std.proofs.Common.{◌≡◌, ◌∙◌, refl, ap, ℕ, zero, suc, List, [], ◌∷◌, arith, sym, ◌++◌}
use Rattle.std.proofs.Common.{flat_map, length, drop, map, Option, None, Some, IsSome}
use Rattle.std.specs.List.{All}
use Rattle.std.specs.Prelude.{true, ◌==◌}
use Rattle.interpolator_prepared.specs.Programs.{Instruction, step_means, steps_mean}
use Rattle.interpolator_prepared.specs.StoredSteps.{Fit, all_mean, fitting_means, joined_placed}
use Rattle.interpolator_prepared.specs.StoredSteps.{joined_step, literal_step, parts_size, step_of}
use Rattle.interpolator_prepared.specs.StoredSteps.{steps_of, stored_step_means, stored_steps_mean}
use Rattle.interpolator_prepared.specs.{declared.step.Part.Part, declared.step.Step.Step}
use Rattle.interpolator_render.specs.{declared.view.Trait.Trait, declared.view.Spec.Spec}
use Rattle.interpolator_render.specs.{Views.Shown, Writers.Written}
use Rattle.interpolator_syntax.specs.{Faults.Answer, Places.placed_from}
use Rattle.interpolator_eval.specs.Meaning.Meanings.{Meaning, chain, text_alone}
use Rattle.interpolator_eval.specs.{Slots.Slots, Meaning.Environments.Environment}
use Rattle.interpolator_eval.specs.Meaning.Outcomes.{Outcome}
use Rattle.interpolator_eval.proofs.MeaningLemmas.MeaningLemmas.{joined_assoc, joined_none}
use Rattle.interpolator_eval.proofs.MeaningLemmas.MeaningLemmas.{nothing_last}
use Rattle.interpolator_eval.proofs.MeaningLemmas.SinkLemmas.{and_then, nothing_done}
use Rattle.interpolator_pieces.specs.Stored.{part}
use Rattle.interpolator_prepared.proofs.JoinedLemmas.{with_value}

-- if some instructions begin a program, they fit their format
fit_front : (xs ys : List (Option Instruction)) (program : List Instruction)
    → xs ++ ys ≡ map Some program → Fit xs
fit_front [] ys program h = tt
fit_front (x ∷ xs) ys [] h = absurd (cc)
fit_front (x ∷ xs) ys (p ∷ ps) h =
    let first : x ≡ Some p = cc in
    (rw first refl, fit_front xs ys ps (cc))

-- and those after them are the rest of it
rest_is : (xs ys : List (Option Instruction)) (program : List Instruction)
    → xs ++ ys ≡ map Some program → ys ≡ map Some (drop (length xs) program)
rest_is [] ys program h = h
rest_is (x ∷ xs) ys [] h = absurd (cc)
rest_is (x ∷ xs) ys (p ∷ ps) h = rest_is xs ys ps (cc)

-- steps that stand for a program fit their format
pub program_fits :
    (bs : List ℕ) (steps : List Step) (program : List Instruction)
    → flat_map (steps_of bs) steps ≡ map Some program
    → All (λ step. Fit (steps_of bs step)) steps
program_fits bs [] program h k d l = absurd (omega (arith, l))
program_fits bs (s ∷ ss) program h zero d l =
    fit_front (steps_of bs s) (flat_map (steps_of bs) ss) program h
program_fits bs (s ∷ ss) program h (suc k) d l =
    program_fits bs ss (drop (length (steps_of bs s)) program)
    (rest_is (steps_of bs s) (flat_map (steps_of bs) ss) program h) k d (omega (arith, l))

-- the steps after the first fit if all do
pub fit_rest : (bs : List ℕ) (xs : List Step) (x : Step) (rest : List Step) → xs ≡ x ∷ rest
    → All (λ step. Fit (steps_of bs step)) xs → All (λ step. Fit (steps_of bs step)) rest
fit_rest bs xs x rest is fit k d l = (rw is at fit) (suc k) d (omega (arith, l))

-- a step of one instruction, and steps with one more
pub alone : (bs : List ℕ) (s : Step) (p : Instruction) → step_of bs s ≡ Some p
    → steps_of bs s ≡ Some p ∷ []
alone bs s p h = grind (arith, h)

module _ {X : Type 0} (shows : X → Trait → Spec → Shown) (e : Environment X)
    (value_at : ℕ → Option (Slots X)) where
  abbrev Means : List (Option Instruction) → Meaning
  Means os = all_mean shows e value_at os

  -- the first instruction, and those after it
  all_first : (o : Option Instruction) (os : List (Option Instruction))
      → Means (o ∷ os) ≡ chain (fitting_means shows e value_at o) (Means os)
  all_first o [] = sym (nothing_last (fitting_means shows e value_at o))
  all_first o (p ∷ os) = refl

  -- some instructions, and those after them
  all_then : (xs ys : List (Option Instruction)) → Means (xs ++ ys) ≡ chain (Means xs) (Means ys)
  all_then [] ys = sym (joined_none (Means ys))
  all_then (x ∷ xs) ys =
      all_first x (xs ++ ys)
      ∙ ap (chain (fitting_means shows e value_at x)) (all_then xs ys)
      ∙ sym (joined_assoc (fitting_means shows e value_at x) (Means xs) (Means ys))
      ∙ ap (λ m. chain m (Means ys)) (sym (all_first x xs))

  -- those of a program mean what it means
  all_program : (program : List Instruction)
      → Means (map Some program) ≡ steps_mean shows e value_at program
  all_program [] = refl
  all_program (p ∷ ps) =
      all_first (Some p) (map Some ps) ∙ ap (chain (step_means shows e value_at p)) (all_program ps)

  module _ (bs : List ℕ) where
    stored_all : (steps : List Step)
        → stored_steps_mean shows e value_at bs steps ≡ Means (flat_map (steps_of bs) steps)
    stored_all [] = refl
    stored_all (s ∷ ss) =
        ap (chain (stored_step_means shows e value_at bs s)) (stored_all ss)
        ∙ sym (all_then (steps_of bs s) (flat_map (steps_of bs) ss))

    -- and steps that stand for a program mean what the program means
    pub program_stored :
        (steps : List Step) (program : List Instruction)
        → flat_map (steps_of bs) steps ≡ map Some program
        → stored_steps_mean shows e value_at bs steps ≡ steps_mean shows e value_at program
    program_stored steps program h = stored_all steps ∙ ap Means h ∙ all_program program

module _ {X : Type 0} (shows : X → Trait → Spec → Shown) (e : Environment X)
    (value_at : ℕ → Option (Slots X)) (bs : List ℕ) where
  -- bytes of the format, and then a value
  module _ (from to : ℕ) (s t u : Written) (r : Option Answer) (m : Meaning) where
    pub literal_then :
        IsSome (literal_step bs from to)
        → ((cs : List ℕ) → part bs from to ≡ Some cs
        → Outcome (text_alone (placed_from from cs)) s t None)
        → Outcome m t u r
        → Outcome (chain (fitting_means shows e value_at (literal_step bs from to)) m) s u r
    literal_then some h k =
        let there : IsSome (part bs from to) = grind (arith, some) in
        with_value (part bs from to) there (λ cs is. rw is (and_then _ _ s t u r (h cs is) k))

  -- text of several parts, and then a value
  module _ (parts : List Part) (bytes : List ℕ) (s t u : Written) (r : Option Answer) (m : Meaning)
      (h : Outcome (text_alone (joined_placed parts bytes)) s t None) (k : Outcome m t u r) where
    pub joined_then :
        IsSome (joined_step parts bytes)
        → Outcome (chain (fitting_means shows e value_at (joined_step parts bytes)) m) s u r
    joined_then some =
        let test : (parts_size parts == length bytes) ≡ true = grind (arith, some) in
        rw test (and_then _ _ s t u r h k)

  abbrev AllMean : List Step → Meaning
  AllMean xs = stored_steps_mean shows e value_at bs xs

  -- no step is left
  pub steps_end : (xs : List Step) (s : Written) → length xs ≡ 0 → Outcome (AllMean xs) s s None
  steps_end [] s none = nothing_done s
  steps_end (x ∷ xs) s none = absurd (omega (arith, none))
