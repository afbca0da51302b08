-- What a reader reads in texts that are joined, and in escaped values.
use Rattle.std.proofs.Common.{◌≡◌, ℕ, Bool, true, List, [], ◌∷◌, ◌++◌, refl, ap, append_assoc}
use Rattle.std.proofs.Common.{flat_map, map, inl, inr}
use Rattle.interpolator_render.specs.declared.view.Spec.{Spec}
use Rattle.interpolator_render.specs.declared.view.Trait.{Trait}
use Rattle.interpolator_render.specs.declared.view.Trait.TheVariants.{Debug, Display}
use Rattle.interpolator_syntax.specs.SpecTexts.{plain_spec}
use Rattle.interpolator_escapes.specs.Readers.{Token, content, structure, structure_of, state_after}
use Rattle.interpolator_escapes.specs.Readers.{read, Keeps, KeepsPlaces, KeepsPlain}
use Rattle.interpolator_escapes.specs.Plain.{AllPlain}
use Rattle.interpolator_escapes.specs.Parts.{Part, literal, value, assembled, MayStand, InPlaces, read_parts}

pub structure-append : (xs ys : List Token)
    → structure_of (xs ++ ys) ≡ structure_of xs ++ structure_of ys
structure-append [] ys = refl
structure-append (content c ∷ xs) ys = structure-append xs ys
structure-append (structure c ∷ xs) ys = ap (λ cs. c ∷ cs) (structure-append xs ys)

pub structure-content : (cs : List ℕ) → structure_of (map content cs) ≡ []
structure-content [] = refl
structure-content (c ∷ cs) = structure-content cs

module _ {S : Type 0} (step : S → ℕ → S × List Token) where
  pub state-append : (s : S) (xs ys : List ℕ)
      → state_after step s (xs ++ ys) ≡ state_after step (state_after step s xs) ys
  state-append s [] ys = refl
  state-append s (x ∷ xs) ys = state-append (step s x).0 xs ys

  pub read-append : (s : S) (xs ys : List ℕ)
      → read step s (xs ++ ys) ≡ read step s xs ++ read step (state_after step s xs) ys
  read-append s [] ys = refl
  read-append s (x ∷ xs) ys =
      rw (read-append (step s x).0 xs ys, append_assoc) refl

  module _ (is_place : S → Trait → Spec → Bool) (escape : ℕ → List ℕ)
      (keeps : KeepsPlaces step is_place escape) (plain : KeepsPlain step is_place escape)
    where
      -- each character is read as itself
      abbrev AllKeep : S → List ℕ → Type 0
      AllKeep s [] = Unit {0}
      AllKeep s (c ∷ cs) = Keeps step escape s c × AllKeep s cs

      keep_state : (s : S) (cs : List ℕ) → AllKeep s cs
          → state_after step s (flat_map escape cs) ≡ s
      keep_state s [] h = refl
      keep_state s (c ∷ cs) h =
          rw (state-append s (escape c) (flat_map escape cs), h.0.0) (keep_state s cs h.1)

      keep_read : (s : S) (cs : List ℕ) → AllKeep s cs
          → read step s (flat_map escape cs) ≡ map content cs
      keep_read s [] h = refl
      keep_read s (c ∷ cs) h =
          rw (
            read-append s (escape c) (flat_map escape cs),
            h.0.0,
            h.0.1,
            keep_read s cs h.1,
          ) refl

      shown_keep : (s : S) (cs : List ℕ) → is_place s Display plain_spec ≡ true → AllKeep s cs
      shown_keep s [] h = tt
      shown_keep s (c ∷ cs) h = (keeps s c h, shown_keep s cs h)

      plain_keep : (s : S) (cs : List ℕ) → is_place s Debug plain_spec ≡ true → AllPlain cs
          → AllKeep s cs
      plain_keep s [] h all = tt
      plain_keep s (c ∷ cs) h all = (plain s c h all.0, plain_keep s cs h all.1)

      all_keep : (s : S) (cs : List ℕ) → MayStand is_place s cs → AllKeep s cs
      all_keep s cs (inl h) = shown_keep s cs h
      all_keep s cs (inr h) = plain_keep s cs h.0 h.1

      pub value_state : (s : S) (cs : List ℕ) → MayStand is_place s cs
          → state_after step s (flat_map escape cs) ≡ s
      value_state s cs h = keep_state s cs (all_keep s cs h)

      pub value_read : (s : S) (cs : List ℕ) → MayStand is_place s cs
          → read step s (flat_map escape cs) ≡ map content cs
      value_read s cs h = keep_read s cs (all_keep s cs h)

      -- the values come back as content, each in its place
      pub parts_read : (s : S) (parts : List Part) → InPlaces step is_place s parts
          → read step s (assembled escape parts) ≡ read_parts step s parts
      parts_read s [] h = refl
      parts_read s (literal cs ∷ parts) h =
          rw (
            read-append s cs (assembled escape parts),
            parts_read (state_after step s cs) parts h,
          ) refl
      parts_read s (value cs ∷ parts) h =
          rw (
            read-append s (flat_map escape cs) (assembled escape parts),
            value_state s cs h.0,
            value_read s cs h.0,
            parts_read s parts h.1,
          ) refl
