use Rattle.std.proofs.Common.{◌-◌, arith}
use Rattle.interpolator_floats.proofs.ScaledLemmas.{short_scale, wide_choice}
use Rattle.interpolator_floats.proofs.{DecideLemmas.choice_some, ReadLemmas.slack-le}
use Rattle.interpolator_floats.proofs.{BoundLemmas.slack, UnitLemmas.step_some}
use Rattle.interpolator_floats.specs.Shortest.{units_down, units_up}
use Rattle.interpolator_floats.proofs.shortest.short_scaled_choice.Goals as goal

pub returns-clause-scale : goal.returns-clause-scale
returns-clause-scale c =
    let found = c.short_choice-found in
    short_scale c.args.mantissa c.args.power (1074 - c.args.power) found.result.scale found.result.choice.count found.result.choice.tens (omega (arith, c.requires.most)) c.requires.least found.ensures.finer found.ensures.least found.ensures.small

pub returns-clause-choice : goal.returns-clause-choice
returns-clause-choice c =
    let found = c.short_choice-found in
    wide_choice c.args.mantissa c.args.power (1074 - c.args.power) found.result.scale found.result.choice.count found.result.choice.tens (omega (arith, c.requires.most)) found.ensures.choice

pub returns-clause-some : goal.returns-clause-some
returns-clause-some c =
    let found = c.short_choice-found in
    let choice = wide_choice c.args.mantissa c.args.power (1074 - c.args.power) found.result.scale found.result.choice.count found.result.choice.tens (omega (arith, c.requires.most)) found.ensures.choice in
    choice_some c.args.mantissa 2 (units_down c.args.power found.result.scale) (units_up 0) (slack c.args.mantissa) found.result.choice.count c.requires.some (omega arith) (slack-le c.args.mantissa) (step_some c.args.power found.result.scale) choice.inside
