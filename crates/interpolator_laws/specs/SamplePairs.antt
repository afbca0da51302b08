-- Pairs, and rows, that resemble a sample of pairs.
use Rattle.std.specs.Prelude.{◌≡◌, ⊤, ℕ, List, [], ◌∷◌}
use Rattle.std.specs.Borrow.{Bor}
use Rattle.interpolator_render.specs.{declared.view.Trait.Trait, declared.view.Spec.Spec}
use Rattle.interpolator_render.specs.Views.{Shown}
use Rattle.interpolator_eval.specs.{Slots.slots_of, Meaning.Resembling.Resembles}
use Rattle.interpolator_eval.specs.declared.slots.Formattable.{Formattable}

-- the pairs have the names of the sample, in the same order, and under each what resembles what the
-- sample has; `shows` says what the values of the sample show, and `others` those of the pairs
abbrev pub PairsResemble : {X Y : Type 0} → (shows : X → Trait → Spec → Shown)
    → (others : Y → Trait → Spec → Shown) → List (Bor (List ℕ) × Formattable Y)
    → List (Bor (List ℕ) × Formattable X) → Type 0
PairsResemble shows others [] [] = ⊤
PairsResemble shows others (p ∷ ps) (q ∷ qs) =
    (p.0.now ≡ q.0.now) × Resembles shows others (slots_of p.1) (slots_of q.1)
    × PairsResemble shows others ps qs
PairsResemble shows others _ _ = ⊥

-- the row has, at the position of each pair of the sample, what resembles it
abbrev pub RowResembles : {X Y : Type 0} → (shows : X → Trait → Spec → Shown)
    → (others : Y → Trait → Spec → Shown) → List (Formattable Y)
    → List (Bor (List ℕ) × Formattable X) → Type 0
RowResembles shows others row [] = ⊤
RowResembles shows others [] (q ∷ qs) = ⊥
RowResembles shows others (x ∷ row) (q ∷ qs) =
    Resembles shows others (slots_of x) (slots_of q.1) × RowResembles shows others row qs
