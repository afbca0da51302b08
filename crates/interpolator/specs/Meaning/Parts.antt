-- What parts mean when they are written one after the other, each as a format by itself.
use Rattle.std.specs.Prelude.{◌≢◌, ℕ, ◌+◌, ⊤, IsTrue, List, [], ◌∷◌, ◌++◌, map, length}
use Rattle.std.specs.{Str.chars, Borrow.Bor}
use Rattle.interpolator_render.specs.{declared.view.Trait.Trait, declared.view.Spec.Spec}
use Rattle.interpolator_render.specs.Views.{Shown}
use Rattle.interpolator_syntax.specs.{Places.size, Grammar.from_place}
use Rattle.interpolator.specs.{Seams.ending, Seams.seam_of, declared.parts.Ending.TheVariants.Open}
use Rattle.interpolator_eval.specs.Meaning.Environments.{Environment}
use Rattle.interpolator_eval.specs.Meaning.Meanings.{Meaning, nothing, chain, means}

-- the parts, one after the other
abbrev pub joined_text : List (List ℕ) → List ℕ
joined_text [] = []
joined_text (part ∷ parts) = part ++ joined_text parts

-- the texts of parts, as the code has them
abbrev pub texts_of : List (Bor (List ℕ)) → List (List ℕ)
texts_of parts = map (λ part. chars part.now) parts

-- how many bytes they have
abbrev pub bytes_of : List (Bor (List ℕ)) → ℕ
bytes_of [] = 0
bytes_of (part ∷ parts) = length part.now + bytes_of parts

module _ {X : Type 0} (shows : X → Trait → Spec → Shown) (e : Environment X) where
  -- the meanings of the parts from a place on, each at the sum of the lengths before it, joined up
  -- to the first fault
  abbrev pub parts_mean : ℕ → List (List ℕ) → Meaning
  parts_mean p [] = nothing
  parts_mean p (part ∷ parts) =
      chain (means shows e (from_place p part)) (parts_mean (p + size part) parts)

-- for each part, the seam is true between this text, followed by the parts before it, and the part
abbrev pub CleanBehind : (before : List ℕ) → List (List ℕ) → Type 0
CleanBehind before [] = ⊤
CleanBehind before (part ∷ parts) =
    IsTrue (seam_of before part) × CleanBehind (before ++ part) parts

-- for each part, the seam is true between the parts before it, joined, and the part
abbrev pub Clean : List (List ℕ) → Type 0
Clean parts = CleanBehind [] parts

-- of the parts, the first at this place, none but the last ends in an argument that is unclosed or
-- broken
abbrev pub FrontsClose : ℕ → List (List ℕ) → Type 0
FrontsClose p [] = ⊤
FrontsClose p (part ∷ []) = ⊤
FrontsClose p (part ∷ next ∷ parts) =
    (ending (from_place p part) ≢ Open) × FrontsClose (p + size part) (next ∷ parts)
