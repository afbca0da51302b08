-- The rests of a text, and their places.
use Rattle.std.proofs.Common.{◌≡◌, ℕ, ◌+◌, ◌-◌, ◌≤◌, List, [], ◌∷◌, ◌++◌, length, arith}
use Rattle.std.proofs.Common.{append_assoc, inl, inr, IsUtf8, IsCharBoundary, eqb, length-append}
use Rattle.std.proofs.Common.{sym}
use Rattle.std.proofs.lemmas.{Bool.cases_Bool, List.drop_all, Str.IsCharBoundary-at_seam}
use Rattle.std.specs.List.{after_first, position_or_len}
use Rattle.records.specs.Places.{goes_on, moved, place_after}
use Rattle.records.specs.{Marks.line_feed, Records.Begins, declared.fault.Place.Place}
use Rattle.records.specs.declared.separator.Separator.{Separator}

-- `rest` is what some front of the text leaves
abbrev pub IsRest : List ℕ → List ℕ → Type 0
IsRest text rest = (front : List ℕ) × (text ≡ front ++ rest)

pub rest_boundary : (text rest : List ℕ) → IsRest text rest → IsUtf8 rest
    → IsCharBoundary text (length text - length rest)
rest_boundary text rest r u =
    let n : length text - length rest ≡ length r.0 = grind (arith, length-append) in
    rw n (IsCharBoundary-at_seam text r.0 rest r.1 u)

pub rest_rest : (text tail rest : List ℕ) → IsRest text tail → IsRest tail rest → IsRest text rest
rest_rest text tail rest one two =
    (one.0 ++ two.0, rw (append_assoc (one.0) (two.0) rest, ← two.1) (one.1))

-- what comes after a record
pub record_rest : (separator : Separator) (fields : List (List ℕ)) (text rest : List ℕ)
    → Begins separator fields text rest → IsRest text rest
record_rest separator fields text rest begins = elim begins.ends [
  | inl none ↦ (begins.written, rw (none.1, ← none.0) begins.is)
  | inr ends ↦ elim ends [
    | inl feed ↦ rest_rest text begins.tail rest (begins.written, begins.is)
        (line_feed ∷ [], feed)
    | inr both ↦ rest_rest text begins.tail rest (begins.written, begins.is)
        (13 ∷ line_feed ∷ [], both)
  ]
]

-- a text has at most as many lines as bytes
pub line_bound : (place : Place) (text : List ℕ)
    → (place_after place text).line ≤ place.line + length text
line_bound place [] = omega arith
line_bound place (b ∷ text) =
    let one : (moved place b).line ≤ place.line + 1 =
    grind (arith, cases_Bool (eqb b line_feed), cases_Bool (goes_on b)) in
    omega (arith, one, line_bound (moved place b) text)

-- without a line feed, no text comes after it
pub none_after : (text : List ℕ) → position_or_len (λ b. eqb b line_feed) text ≡ length text
    → [] ≡ after_first (λ b. eqb b line_feed) text
none_after text e = sym (drop_all (position_or_len (λ b. eqb b line_feed) text + 1) text
    (omega (arith, e)))
