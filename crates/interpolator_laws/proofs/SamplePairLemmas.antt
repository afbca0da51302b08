-- Pairs that resemble those of a sample, and views that have a text by their kind.
use Rattle.std.proofs.Common.{arith, ◌≡◌, ℕ, List, [], ◌∷◌, ◌++◌, Option, option_map, Bor, find}
use Rattle.std.proofs.Common.{reverse, bytes_eq}
use Rattle.std.proofs.lemmas.List.{reverse-append}
use Rattle.interpolator_render.specs.{Texts.view_text, Views.Shown, declared.view.Spec.Spec}
use Rattle.interpolator_render.specs.declared.view.Trait.{Trait}
use Rattle.interpolator_eval.specs.Meaning.Resembling.{HasText, ResemblesFound, ResemblesOn}
use Rattle.interpolator_eval.specs.Meaning.Samples.{shows_nothing, is_failure}
use Rattle.interpolator_eval.specs.Slots.{Slots, slots_of}
use Rattle.interpolator_eval.specs.{Contexts.found_by_pairs, Meaning.Environments.environment}
use Rattle.interpolator_eval.specs.declared.slots.Formattable.{Formattable}
use Rattle.interpolator_laws.specs.SamplePairs.{PairsResemble}
use Rattle.interpolator_eval.proofs.MeaningLemmas.SampleLemmas.{view_missing, view_failed}

-- ---- pairs

module _ {X Y : Type 0} (shows : X → Trait → Spec → Shown) (others : Y → Trait → Spec → Shown) where
  abbrev Ours : Type 0
  Ours = List (Bor (List ℕ) × Formattable Y)

  abbrev Theirs : Type 0
  Theirs = List (Bor (List ℕ) × Formattable X)

  both_resemble : (ps : Ours) (qs : Theirs) (more : Ours) (others_more : Theirs)
      → PairsResemble shows others ps qs → PairsResemble shows others more others_more
      → PairsResemble shows others (ps ++ more) (qs ++ others_more)
  both_resemble (p ∷ ps) (q ∷ qs) more others_more h k =
      (h.0, h.1, both_resemble ps qs more others_more h.2 k)
  both_resemble ps qs more others_more h k = grind arith

  reversed_resemble : (ps : Ours) (qs : Theirs) → PairsResemble shows others ps qs
      → PairsResemble shows others (reverse ps) (reverse qs)
  reversed_resemble (p ∷ ps) (q ∷ qs) h =
      rw (reverse-append (p ∷ []) ps, reverse-append (q ∷ []) qs)
      (both_resemble (reverse ps) (reverse qs) (p ∷ []) (q ∷ [])
      (reversed_resemble ps qs h.2) (h.0, h.1, tt))
  reversed_resemble ps qs h = grind arith

  -- what the first pair of a name holds
  abbrev found_first : {Z : Type 0} → List (Bor (List ℕ) × Formattable Z) → List ℕ → Option (Slots Z)
  found_first pairs bytes =
      option_map slots_of
      (option_map (λ pair. pair.1) (find (λ pair. bytes_eq bytes pair.0.now) pairs))

  first_resembles : (ps : Ours) (qs : Theirs) (bytes : List ℕ) → PairsResemble shows others ps qs
      → ResemblesFound shows others (found_first ps bytes) (found_first qs bytes)
  first_resembles (p ∷ ps) (q ∷ qs) bytes h = grind (arith, first_resembles ps qs bytes h.2)
  first_resembles ps qs bytes h = grind arith

  pub pairs_resemble : (ps : Ours) (qs : Theirs) (names : List (List ℕ))
      → PairsResemble shows others ps qs
      → ResemblesOn shows others (environment (found_by_pairs ps)) (environment (found_by_pairs qs))
      names
  pairs_resemble ps qs [] h = tt
  pairs_resemble ps qs (name ∷ names) h =
      grind (arith, first_resembles, reversed_resemble, pairs_resemble ps qs names h)

-- ---- views

-- two views that show nothing under the same traits and fail alike have a text alike
pub kind_has_text : (x y : Shown) (t : Trait) (spec : Spec) → shows_nothing x t ≡ shows_nothing y t
    → is_failure x ≡ is_failure y → HasText (view_text x t spec) → HasText (view_text y t spec)
kind_has_text x y t spec same fail h =
    let missing = view_missing x t spec in let failed = view_failed x t spec in
    grind (arith, missing, failed, view_missing y t spec, view_failed y t spec)
