-- A newline after what a format means.
use Rattle.std.proofs.Common.{refl, ℕ, arith, Option, None, Some}
use Rattle.interpolator_render.specs.Writers.{Written}
use Rattle.interpolator_syntax.specs.Faults.{Answer, PlaceWithin}
use Rattle.interpolator_eval.specs.{Meaning.Meanings.Meaning, Meaning.Outcomes.Outcome}
use Rattle.interpolator_pieces.specs.Lines.{newline_means, line_means}
use Rattle.interpolator_eval.proofs.MeaningLemmas.OutcomeLemmas.{finished_if_none, after_finished}
use Rattle.interpolator_eval.proofs.MeaningLemmas.OutcomeLemmas.{before_fault}
use Rattle.interpolator_eval.proofs.MeaningLemmas.PlaceLemmas.{outcome_within}

-- a newline after a format without a fault
pub line_done :
    (m : Meaning) (old mid new : Written) (answer : Option Answer) → Outcome m old mid None
    → Outcome newline_means mid new answer
    → Outcome (line_means m) old new answer
line_done m old mid new answer h k =
    after_finished _ _ old mid new answer (finished_if_none m old mid h) k

-- no newline after a fault
pub line_fault :
    (m : Meaning) (old new : Written) (q : Answer) → Outcome m old new (Some q)
    → Outcome (line_means m) old new (Some q)
line_fault m old new q h = before_fault m _ old new q m.fault refl h

-- if the newline is refused, the place is 0
pub newline_place :
    (n : ℕ) (old new : Written) (answer : Option Answer)
    → Outcome newline_means old new answer → PlaceWithin n answer
newline_place n old new answer h =
    outcome_within n newline_means old new answer
    (record { stands = (omega arith, tt); faults = tt }) h
