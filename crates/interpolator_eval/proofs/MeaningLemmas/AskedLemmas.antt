-- A text means the same in an environment cut to the names that it uses.
use Rattle.std.proofs.Common.{◌≡◌, ℕ, List, [], ◌∷◌, arith, refl, true, Option, Some, ◌&&◌}
use Rattle.std.proofs.lemmas.Slice.Eq.{bytes_eq-Decides}
use Rattle.interpolator_render.specs.{declared.view.Trait.Trait, declared.view.Spec.Spec}
use Rattle.interpolator_render.specs.{Views.Shown, Writers.Written}
use Rattle.interpolator_syntax.specs.{Places.At, Faults.Answer}
use Rattle.interpolator_eval.specs.Meaning.AskedNames.{asked_names, AgreeOn}
use Rattle.interpolator_eval.specs.Meaning.Environments.{Environment, is_among, within, names_among}
use Rattle.interpolator_eval.specs.Meaning.Environments.{cut}
use Rattle.interpolator_eval.specs.{Slots.Slots, Meaning.Meanings.means, Meaning.Outcomes.Outcome}
use Rattle.interpolator_eval.proofs.MeaningLemmas.EqualLemmas.{means_same}

-- ---- an environment that is cut

-- a name is among those that are kept if it is in both lists
among_kept : (n : List ℕ) (own names : List (List ℕ))
    → is_among n (names_among (Some own) names) ≡ (is_among n names && is_among n own)
among_kept n own [] = refl
among_kept n own (x ∷ xs) = grind (arith, among_kept n own xs, bytes_eq-Decides n x)

module _ {X : Type 0} where
  within_kept : (own : Option (List (List ℕ))) (finds : List ℕ → Option (Slots X))
      (names : List (List ℕ)) (n : List ℕ) → is_among n names ≡ true
      → within own finds n ≡ within (Some (names_among own names)) finds n
  within_kept own finds names n h = grind (arith, among_kept)

  agree_cut : (e : Environment X) (all names : List (List ℕ))
      → ((n : List ℕ) → is_among n names ≡ true → is_among n all ≡ true)
      → AgreeOn e (cut e all) names
  agree_cut e all [] h = tt
  agree_cut e all (x ∷ xs) h =
      let rest = agree_cut e all xs (λ n k. h n (grind arith)) in
      grind (arith, (bytes_eq-Decides x x).1 refl, h x, within_kept, rest)

-- a text means the same in an environment cut to the names that it uses
pub asked_alone : {X : Type 0} (shows : X → Trait → Spec → Shown) (e : Environment X) (a : At)
    → means shows e a ≡ means shows (cut e (asked_names a)) a
asked_alone shows e a =
    means_same shows e _ a (agree_cut e (asked_names a) (asked_names a) (λ n h. h))

-- so an outcome in the former is an outcome in the latter
pub asked_outcome :
    {X : Type 0} (shows : X → Trait → Spec → Shown) (e : Environment X) (a : At)
    (old new : Written) (answer : Option Answer) → Outcome (means shows e a) old new answer
    → Outcome (means shows (cut e (asked_names a)) a) old new answer
asked_outcome shows e a old new answer h = rw (← asked_alone shows e a) h
