-- Which items of a list a range chooses.
use Rattle.std.specs.Prelude.{ℕ, ℤ, pos, negsuc, suc, ◌+◌, ◌-◌, min, if◌then◌else◌}
use Rattle.std.specs.Prelude.{List, length, take, drop, Option, None, Some}
use Rattle.interpolator_syntax.specs.declared.range.Range.{Range}

-- the index of a bound in a list of n items: below zero it counts from the list's end, and lies at
-- its beginning if the list is too short
abbrev pub bound_in : (n : ℕ) → ℤ → ℕ
bound_in n (pos k) = k
bound_in n (negsuc k) = n - suc k

-- the index of a bound in a list of n items, or `absent` if there is no bound
abbrev pub bound_or : (n absent : ℕ) → Option ℤ → ℕ
bound_or n absent None = absent
bound_or n absent (Some bound) = bound_in n bound

-- the index of the first item of a range, by its bound
abbrev pub lower_in : (n : ℕ) → Range → ℕ
lower_in n range = bound_or n 0 range.lower

-- the index after the last item of a range, by its bound
abbrev pub upper_in : (n : ℕ) → Range → ℕ
upper_in n range = bound_or n n range.upper + (if range.inclusive then 1 else 0)

-- the indices at which a range begins and ends in a list of n items: the end is cut to the list,
-- and the beginning to the end
abbrev pub places_of : (n : ℕ) → Range → ℕ × ℕ
places_of n range =
    (min (lower_in n range) (min (upper_in n range) n), min (upper_in n range) n)

-- the indices that a range chooses; all, if there is no range
abbrev pub chosen_places : (n : ℕ) → Option Range → ℕ × ℕ
chosen_places n None = (0, n)
chosen_places n (Some range) = places_of n range

-- the items from one index up to another
abbrev pub items_between : {A : Type 0} → ℕ × ℕ → List A → List A
items_between places xs = drop places.0 (take places.1 xs)

-- the items of a list that a range chooses
abbrev pub chosen_items : {A : Type 0} → Option Range → List A → List A
chosen_items range xs = items_between (chosen_places (length xs) range) xs
