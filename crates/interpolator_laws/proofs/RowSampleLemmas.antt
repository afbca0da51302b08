-- A row means what pairs of its names and values mean, and resembles a sample if they do.
use Rattle.std.proofs.Common.{◌≡◌, ◌≢◌, refl, sym, ℕ, Bool, false, cond, List, [], ◌∷◌, ◌≤◌, length}
use Rattle.std.proofs.Common.{map, arith, Option, Some, None, option_map, rules, Bor, find, zip}
use Rattle.std.proofs.Common.{option_and_then, reverse, bytes_eq, encode_utf8_all}
use Rattle.std.proofs.{lemmas.List.reverse-append, lemmas.List.Folds.find-append}
use Rattle.std.specs.{Option.option_or, Prelude.⊤}
use Rattle.interpolator_render.specs.{Views.Shown, Writers.Written, declared.view.Spec.Spec}
use Rattle.interpolator_render.specs.declared.view.Trait.{Trait}
use Rattle.interpolator_syntax.specs.{Places.At, Faults.Answer, Faults.no_memory}
use Rattle.interpolator_eval.specs.Meaning.Environments.{Environment, environment}
use Rattle.interpolator_eval.specs.Meaning.Outcomes.{Outcome, OnlyRefused}
use Rattle.interpolator_eval.specs.{Contexts.found_by_pairs, Meaning.AskedNames.asked_names}
use Rattle.interpolator_eval.specs.{Meaning.Meanings.means, Meaning.Resembling.ResemblesOn}
use Rattle.interpolator_eval.specs.{Slots.slots_of, declared.slots.Formattable.Formattable}
use Rattle.interpolator_eval.proofs.MeaningLemmas.EqualLemmas.{means_same}
use Rattle.interpolator_laws.specs.SamplePairs.{PairsResemble, RowResembles}
use Rattle.interpolator_pieces.specs.NodeSamples.{faults_over, pads_a_list}
use Rattle.interpolator_prepared.specs.Rows.{found_by_row, last_position, later_or_first}
use Rattle.interpolator_prepared.specs.Rows.{pair_names, row_at}
use Rattle.interpolator_laws.proofs.ResembleLemmas.{no_fault, no_memory_point}
use Rattle.interpolator_laws.proofs.SamplePairLemmas.{pairs_resemble}
use Rattle.interpolator_laws.proofs.UnfailingLemmas.{only_refused, wants_none}

-- ---- a name

module _ {Y : Type 0} (bytes : List ℕ) where
  abbrev is_named : Bor (List ℕ) × Formattable Y → Bool
  is_named pair = bytes_eq bytes pair.0.now

  -- the value at the position that was found is that of the pair that was found
  abbrev Agree : List (Formattable Y) → Option ℕ → Option (Bor (List ℕ) × Formattable Y) → Type 0
  Agree row None None = ⊤
  Agree row (Some k) (Some p) = row_at row k ≡ Some (slots_of p.1)
  Agree row _ _ = ⊥

  agree_more :
      (x : Formattable Y) (row : List (Formattable Y)) (name : Bor (List ℕ)) (o : Option ℕ)
      (r : Option (Bor (List ℕ) × Formattable Y)) (b : Bool) → Agree row o r
      → Agree (x ∷ row) (later_or_first o b) (option_or r (cond b (Some (name, x)) None))
  agree_more x row name o r b h = grind arith

  agree_found :
      (row : List (Formattable Y)) (o : Option ℕ) (r : Option (Bor (List ℕ) × Formattable Y))
      → Agree row o r
      → option_and_then (row_at row) o ≡ option_map slots_of (option_map (λ pair. pair.1) r)
  agree_found row o r h = grind arith

module _ {Y : Type 0} where
  agree : (row : List (Formattable Y)) (names : List (Bor (List ℕ))) (bytes : List ℕ)
      → length names ≤ length row
      → Agree bytes row (last_position (map (λ name. name.now) names) bytes)
      (find (is_named bytes) (reverse (zip names row)))
  agree row [] bytes h = tt
  agree [] (n ∷ names) bytes h = absurd (omega (arith, h))
  agree (x ∷ row) (n ∷ names) bytes h =
      let pairs = zip names row in
      let rest = agree row names bytes (omega (arith, h)) in
      rw (
        reverse-append ((n, x) ∷ []) pairs,
        find-append (is_named bytes) (reverse pairs) ((n, x) ∷ []),
      ) (agree_more bytes x row n _ _ (bytes_eq bytes n.now) rest)

  -- the values of a row under names are those of their pairs
  pub found_in_pairs : (row : List (Formattable Y)) (names : List (Bor (List ℕ))) (name : List ℕ)
      → length names ≤ length row
      → found_by_pairs (zip names row) name
      ≡ found_by_row (map (λ own. own.now) names) (row_at row) name
  found_in_pairs row names name h =
      let bytes = encode_utf8_all name in
      sym (agree_found bytes row _ _ (agree row names bytes h))

  -- so a format means with a row what it means with these pairs
  pub row_means : (shows : Y → Trait → Spec → Shown) (row : List (Formattable Y))
      (names : List (Bor (List ℕ))) (a : At) → length names ≤ length row
      → means shows (environment (found_by_row (map (λ own. own.now) names) (row_at row))) a
      ≡ means shows (environment (found_by_pairs (zip names row))) a
  row_means shows row names a h = grind (arith, means_same, found_in_pairs)

-- ---- the sample

module _ {X Y : Type 0} (shows : X → Trait → Spec → Shown) (others : Y → Trait → Spec → Shown) where
  abbrev names_in : List (Bor (List ℕ) × Formattable X) → List (Bor (List ℕ))
  names_in sample = map (λ pair. pair.0) sample

  names_shown : (sample : List (Bor (List ℕ) × Formattable X))
      → map (λ name. name.now) (names_in sample) ≡ pair_names sample
  names_shown [] = refl
  names_shown (q ∷ qs) = grind (arith, names_shown qs)

  reached : (row : List (Formattable Y)) (sample : List (Bor (List ℕ) × Formattable X))
      → RowResembles shows others row sample → length (names_in sample) ≤ length row
  reached row [] h = omega arith
  reached [] (q ∷ qs) h = absurd h
  reached (x ∷ row) (q ∷ qs) h = omega (arith, reached row qs h.1)

  pairs_alike : (row : List (Formattable Y)) (sample : List (Bor (List ℕ) × Formattable X))
      → RowResembles shows others row sample
      → PairsResemble shows others (zip (names_in sample) row) sample
  pairs_alike row [] h = tt
  pairs_alike [] (q ∷ qs) h = absurd h
  pairs_alike (x ∷ row) (q ∷ qs) h = (refl, h.0, pairs_alike row qs h.1)

  of_pairs : (row : List (Formattable Y)) (sample : List (Bor (List ℕ) × Formattable X))
      (names : List (List ℕ)) → RowResembles shows others row sample
      → ResemblesOn shows others (environment (found_by_pairs (zip (names_in sample) row)))
      (environment (found_by_pairs sample)) names
      → ResemblesOn shows others (environment (found_by_row (pair_names sample) (row_at row)))
      (environment (found_by_pairs sample)) names
  of_pairs row sample [] h k = tt
  of_pairs row sample (name ∷ names) h k =
      grind (arith, found_in_pairs, reached, names_shown, of_pairs row sample names h k.1)

  -- a row resembles a sample under whatever names
  pub row_resembles : (row : List (Formattable Y)) (sample : List (Bor (List ℕ) × Formattable X))
      (names : List (List ℕ)) → RowResembles shows others row sample
      → ResemblesOn shows others (environment (found_by_row (pair_names sample) (row_at row)))
      (environment (found_by_pairs sample)) names
  row_resembles row sample names h = search (rules, of_pairs, pairs_resemble, pairs_alike)

-- ---- what is written

module _ {X Y : Type 0} (shows : X → Trait → Spec → Shown) (others : Y → Trait → Spec → Shown)
    (sample : List (Bor (List ℕ) × Formattable X)) (row : List (Formattable Y)) where
  abbrev by_names : List (List ℕ) → Environment Y
  by_names names = environment (found_by_row names (row_at row))

  module _ (a : At) (none : faults_over shows (found_by_pairs sample) a ≡ [])
      (like : RowResembles shows others row sample) where
    like_on : ResemblesOn shows others (by_names (pair_names sample))
        (environment (found_by_pairs sample)) (asked_names a)
    like_on = search (rules, row_resembles)

    -- no fault is meant
    row_fault : (means others (by_names (pair_names sample)) a).fault ≡ None
    row_fault = grind (arith, no_fault, like_on)

    module _ (names : List (List ℕ)) (named : names ≡ pair_names sample) (old new : Written)
        (answer : Option Answer) (o : Outcome (means others (by_names names) a) old new answer) where
      no_fault_named : (means others (by_names names) a).fault ≡ None
      no_fault_named = grind (arith, row_fault)

      -- so all is written, unless the writer has refused or there was no memory
      pub writes_all : OnlyRefused new answer
      writes_all = grind (arith, only_refused, no_fault_named)

      -- and none is taken, if no list is under a width
      pub wants_no_memory : pads_a_list a ≡ false → answer ≢ Some no_memory
      wants_no_memory pads = grind (arith, wants_none, no_fault_named, no_memory_point, like_on)

  pub means_no_fault : (a : At) → faults_over shows (found_by_pairs sample) a ≡ []
      → RowResembles shows others row sample
      → (means others (by_names (pair_names sample)) a).fault ≡ None
  means_no_fault a none like = row_fault a none like
