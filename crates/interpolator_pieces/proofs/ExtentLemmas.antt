-- How wide stored pieces are when they are entered, and the greatest number that a text has.
use Rattle.std.proofs.Common.{◌≡◌, arith, ℕ, true, List, Result, Ok, max}
use Rattle.interpolator_pieces.specs.NodeExtents.{stored_extent, visit_extent}
use Rattle.interpolator_pieces.specs.Visits.{Visit, enter, Walks, greatest, text_visits}
use Rattle.interpolator_pieces.specs.Stored.{node_of, node_whole}
use Rattle.interpolator_pieces.specs.{declared.walk.Level.Level, declared.piece.Piece.Piece}
use Rattle.interpolator_pieces.proofs.{VisitLemmas.gathers_greatest, StoredLemmas.node_of_out}
use Rattle.interpolator_pieces.proofs.WholePieceLemmas.{fits_text}
use Rattle.interpolator_syntax.specs.Places.{At}

-- ---- one piece

-- the extent that is met when a piece is entered
pub extent_entered : (level : Level) (bs : List ℕ) (x : Piece) → node_whole (node_of bs x) ≡ true
    → stored_extent x ≡ visit_extent (enter level (node_of bs x))
extent_entered level bs x whole = grind (arith, node_of_out, fits_text)

-- ---- the greatest in a text

pub text_greatest : {V E : Type 0} (step : V → Visit → V → Result (Unit {0}) E → Type 0)
    (content : V → ℕ) (asks : Visit → ℕ)
    → ((old new : V) (x : Visit) (answer : Result (Unit {0}) E) → step old x new answer
    → (answer ≡ Ok tt) × (content new ≡ max (content old) (asks x)))
    → (a : At) (old new : V) (answer : Result (Unit {0}) E) → content old ≡ 0
    → Walks step old (text_visits a) new answer
    → (answer ≡ Ok tt) × (content new ≡ greatest asks (text_visits a))
text_greatest step content asks adds a old new answer none h =
    grind (arith, gathers_greatest step content asks adds old new (text_visits a) answer h)
