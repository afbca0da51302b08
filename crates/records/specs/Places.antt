-- Places in a text, by line and character.
use Rattle.std.specs.Prelude.{ℕ, Bool, ◌+◌, ◌==◌, ◌&&◌, nat_le, nat_lt, cond, List, [], ◌∷◌}
use Rattle.records.specs.{Marks.line_feed, declared.fault.Place.Place}

-- a byte goes on with a character
abbrev pub goes_on : ℕ → Bool
goes_on b = nat_le 128 b && nat_lt b 192

-- the place behind one more byte: a line feed begins a line, and any other character takes a column
abbrev pub moved : Place → ℕ → Place
moved place b = cond (b == line_feed) (record { line = place.line + 1; column = 1 })
    (cond (goes_on b) place (record { line = place.line; column = place.column + 1 }))

-- the place behind a text, which begins at a place
abbrev pub place_after : Place → List ℕ → Place
place_after place [] = place
place_after place (b ∷ bs) = place_after (moved place b) bs
