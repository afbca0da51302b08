-- A text in parts: literals, and values, which are escaped.
use Rattle.std.specs.Prelude.{◌≡◌, ◌⊎◌, ℕ, Bool, true, List, [], ◌∷◌, ◌++◌, map}
use Rattle.std.specs.List.{flat_map}
use Rattle.interpolator_render.specs.declared.view.Trait.TheVariants.{Debug, Display}
use Rattle.interpolator_render.specs.{declared.view.Spec.Spec, declared.view.Trait.Trait}
use Rattle.interpolator_syntax.specs.SpecTexts.{plain_spec}
use Rattle.interpolator_escapes.specs.Plain.{AllPlain}
use Rattle.interpolator_escapes.specs.Readers.{Token, content, state_after, read}

-- a literal, or the text of a value
pub data Part : Type 0 where
  literal : List ℕ → Part
  value : List ℕ → Part

-- the texts of the values
abbrev pub values_in : List Part → List (List ℕ)
values_in [] = []
values_in (literal cs ∷ parts) = values_in parts
values_in (value cs ∷ parts) = cs ∷ values_in parts

module _ (escape : ℕ → List ℕ) where
  -- a literal as it is, a value escaped
  abbrev pub part_text : Part → List ℕ
  part_text (literal cs) = cs
  part_text (value cs) = flat_map escape cs

  -- the parts, one after the other
  abbrev pub assembled : List Part → List ℕ
  assembled parts = flat_map part_text parts

-- a text may stand in a place of what is displayed, and one of plain characters in one of debug
abbrev pub MayStand : {S : Type 0} → (is_place : S → Trait → Spec → Bool) → S → List ℕ → Type 0
MayStand is_place s cs =
    (is_place s Display plain_spec ≡ true) ⊎ ((is_place s Debug plain_spec ≡ true) × AllPlain cs)

module _ {S : Type 0} (step : S → ℕ → S × List Token) where
  -- each value stands in a place, to which the literals lead
  abbrev pub InPlaces : (is_place : S → Trait → Spec → Bool) → S → List Part → Type 0
  InPlaces is_place s [] = Unit {0}
  InPlaces is_place s (literal cs ∷ parts) = InPlaces is_place (state_after step s cs) parts
  InPlaces is_place s (value cs ∷ parts) = MayStand is_place s cs × InPlaces is_place s parts

  -- what is read in the literals, with the characters of each value as content between them
  abbrev pub read_parts : S → List Part → List Token
  read_parts s [] = []
  read_parts s (literal cs ∷ parts) =
      read step s cs ++ read_parts (state_after step s cs) parts
  read_parts s (value cs ∷ parts) = map content cs ++ read_parts s parts
