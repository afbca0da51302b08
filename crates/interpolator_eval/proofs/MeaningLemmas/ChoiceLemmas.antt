-- The items of a list that a range chooses.
use Rattle.std.proofs.Common.{◌≡◌, ◌↔◌, sym, ◌∙◌, ap, arith, append_assoc, ℕ, ◌+◌, ◌-◌, ◌<◌}
use Rattle.std.proofs.Common.{◌≤◌, min, List, ◌++◌, map, take, drop, length, Option}
use Rattle.std.proofs.Common.{take-append-drop, length-take-le, length-drop}
use Rattle.std.proofs.lemmas.List.{drop-take, drop-map, take-map, length-map}
use Rattle.interpolator_syntax.specs.declared.range.Range.{Range}
use Rattle.interpolator_eval.specs.Meaning.Choices.{chosen_places, chosen_items}

-- the chosen places are in order, and lie in the list
pub in_order_and_inside : (n : ℕ) (range : Option Range)
    → ((chosen_places n range).0 ≤ (chosen_places n range).1) × ((chosen_places n range).1 ≤ n)
in_order_and_inside n range = grind arith

pub places_ordered : (n : ℕ) (range : Option Range)
    → (chosen_places n range).0 ≤ (chosen_places n range).1
places_ordered n range = (in_order_and_inside n range).0

-- an index in a list of n items lies between places that are cut exactly if it lies between the
-- same places before they are cut
pub between_cut : (n k lower upper : ℕ) → k < n
    → ((min lower (min upper n) ≤ k) × (k < min upper n)) ↔ ((lower ≤ k) × (k < upper))
between_cut n k lower upper h = (λ both. grind arith, λ both. grind arith)

-- if there is no such index, the two places are the same
pub none_between : (n lower upper : ℕ) → ((k : ℕ) → k < n → lower ≤ k → k < upper → ⊥)
    → ◌≡◌ {A = ℕ × ℕ} (min lower (min upper n), min upper n) (min upper n, min upper n)
none_between n lower upper h =
    grind (arith, h lower)

-- the items from one index up to another, counted from the first
pub between : {A : Type 0} (i j : ℕ) (xs : List A) → i ≤ j
    → take (j - i) (drop i xs) ≡ drop i (take j xs)
between i j xs h = grind (arith, drop-take i (j - i) xs)

-- mapping the chosen items is choosing from the mapped items
pub map-chosen : {A B : Type 0} (f : A → B) (range : Option Range) (xs : List A)
    → map f (chosen_items range xs) ≡ chosen_items range (map f xs)
map-chosen f range xs = grind (arith, length-map, take-map, drop-map)

-- a list is what comes before two places in it, between them and after them
split_at : {A : Type 0} (i j : ℕ) (xs : List A) → i ≤ j → j ≤ length xs
    → (front back : List A) × (xs ≡ front ++ (drop i (take j xs) ++ back))
    × (length front ≡ i) × (length front + length (drop i (take j xs)) ≡ j)
split_at i j xs h k =
    let low : i ≤ length (take j xs) = omega (arith, h, length-take-le j xs k) in
    let first : length (take i (take j xs)) ≡ i = length-take-le i (take j xs) low in
    let count : length (drop i (take j xs)) ≡ j - i =
    length-drop i (take j xs) ∙ ap (λ n. n - i) (length-take-le j xs k) in
    let whole =
    sym (take-append-drop j xs) ∙ ap (λ ys. ys ++ drop j xs) (sym (take-append-drop i (take j xs)))
    ∙ append_assoc (take i (take j xs)) (drop i (take j xs)) (drop j xs) in
    (take i (take j xs), drop j xs, whole, first, omega (arith, first, count, h))

pub chosen_stand : {A : Type 0} (range : Option Range) (xs : List A)
    → (front back : List A) × (xs ≡ front ++ (chosen_items range xs ++ back))
    × (length front ≡ (chosen_places (length xs) range).0)
    × (length front + length (chosen_items range xs) ≡ (chosen_places (length xs) range).1)
chosen_stand range xs =
    let lie = in_order_and_inside (length xs) range in split_at _ _ xs lie.0 lie.1
