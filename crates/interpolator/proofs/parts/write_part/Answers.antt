use Rattle.std.proofs.Common.{ap, sym, ℕ, ◌+◌}
use Rattle.std.specs.Str.{chars}
use Rattle.interpolator_eval.specs.Meaning.CodeEnvironments.{environment_of}
use Rattle.interpolator_syntax.proofs.CharacterLemmas.{size-chars}
use Rattle.interpolator_eval.proofs.MeaningLemmas.PlaceLemmas.{outcome_lies_from}
use Rattle.interpolator.proofs.parts.write_part.Goals as goal

pub returns-in-Ok-clause-after : goal.returns-in-Ok-clause-after
returns-in-Ok-clause-after g c =
    ap (λ (n : ℕ). c.args.place + n) (sym (size-chars c.args.part.now c.utf8.part))

pub returns-in-Err-clause-place : goal.returns-in-Err-clause-place
returns-in-Err-clause-place g c =
    outcome_lies_from g.C.Object.Value.shows (environment_of g.C.Context.finds c.args.environment.now)
    c.args.place (chars c.args.part.now) _ _ _ _
    (ap (λ (n : ℕ). c.args.place + n) (size-chars c.args.part.now c.utf8.part))
    c.in-Err.ensures.writes.outcome
