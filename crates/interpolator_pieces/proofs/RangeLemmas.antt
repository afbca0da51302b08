-- How many items a range can choose at most, and that these are items of the list.
use Rattle.std.proofs.Common.{arith, ℕ, zero, suc, ◌-◌, ◌≤◌}
use Rattle.std.proofs.Common.{List, [], ◌∷◌, length, take, drop, Option}
use Rattle.std.specs.Prelude.{⊤}
use Rattle.interpolator_syntax.specs.declared.range.Range.{Range}
use Rattle.interpolator_eval.specs.Meaning.Choices.{chosen_places, chosen_items}
use Rattle.interpolator_eval.specs.Meaning.Limits.{most_chosen}
use Rattle.interpolator_eval.proofs.MeaningLemmas.ChoiceLemmas.{chosen_stand}

fewer : (n most : ℕ) → n ≤ most → (range : Option Range)
    → (chosen_places n range).1 - (chosen_places n range).0 ≤ most_chosen most range
fewer n most h range = grind arith

-- a range chooses no more than that
pub chosen_fewer : {A : Type 0} (most : ℕ) (range : Option Range) (xs : List A)
    → length xs ≤ most → length (chosen_items range xs) ≤ most_chosen most range
chosen_fewer most range xs h =
    let few = fewer (length xs) most h range in
    let (front, back, split, first, last) = chosen_stand range xs in omega (arith, few, first, last)

-- what holds for each item of a list holds for those that are chosen
abbrev pub Each : {A : Type 0} → (A → Type 0) → List A → Type 0
Each P [] = ⊤
Each P (x ∷ xs) = P x × Each P xs

each_take : {A : Type 0} (P : A → Type 0) (n : ℕ) (xs : List A) → Each P xs → Each P (take n xs)
each_take P zero xs h = tt
each_take P (suc n) [] h = tt
each_take P (suc n) (x ∷ xs) h = (h.0, each_take P n xs h.1)

each_drop : {A : Type 0} (P : A → Type 0) (n : ℕ) (xs : List A) → Each P xs → Each P (drop n xs)
each_drop P zero xs h = h
each_drop P (suc n) [] h = tt
each_drop P (suc n) (x ∷ xs) h = each_drop P n xs h.1

pub each_chosen : {A : Type 0} (P : A → Type 0) (range : Option Range) (xs : List A) → Each P xs
    → Each P (chosen_items range xs)
each_chosen P range xs h =
    let places = chosen_places (length xs) range in
    each_drop P places.0 (take places.1 xs) (each_take P places.1 xs h)

-- ---- more items

pub chosen_grows : (few many : ℕ) → few ≤ many → (range : Option Range)
    → most_chosen few range ≤ most_chosen many range
chosen_grows few many h range = grind arith
