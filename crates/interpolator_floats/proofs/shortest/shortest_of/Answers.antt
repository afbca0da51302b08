use Rattle.std.proofs.Common.{arith, subst, sym, ◌∙◌, ◌*◌, ◌^◌}
use Rattle.interpolator_floats.specs.Shortest.{IsShortest}
use Rattle.interpolator_floats.proofs.ChosenLemmas.{is_trimmed, same_digits}
use Rattle.interpolator_floats.proofs.ShortestLemmas.{found_shortest}
use Rattle.interpolator_floats.proofs.WholeLemmas.{whole_is, whole_shortest}
use Rattle.interpolator_floats.proofs.shortest.shortest_of.Goals as goal

pub returns-in-Some-clause-shortest : goal.returns-in-Some-clause-shortest
returns-in-Some-clause-shortest c = λ format k has.
    let shown = c.whole_digits in
    subst (λ down. IsShortest format (c.args.mantissa * 2 ^ c.args.power) shown.result.digits shown.result.up down) (sym shown.ensures.whole)
    (whole_shortest c.in-Some.number c.args.mantissa c.args.power c.args.half shown.result.digits shown.result.up
    c.requires.some c.in-Some.ensures.value c.in-Some.ensures.below c.requires.short c.requires.least c.requires.most c.requires.even
    shown.ensures.value shown.ensures.last format k has)

pub returns-in-Some-clause-value : goal.returns-in-Some-clause-value
returns-in-Some-clause-value c =
    let shown = c.whole_digits in
    (λ i. record { digits = shown.result.digits; up = shown.result.up; down = shown.ensures.whole i })
    ∙ whole_is c.in-Some.number c.args.mantissa c.args.power c.args.half shown.result.digits shown.result.up
    c.requires.some c.in-Some.ensures.value c.in-Some.ensures.below c.requires.short c.requires.least c.requires.most c.requires.even
    shown.ensures.value shown.ensures.last

pub returns-clause-shortest : goal.returns-clause-shortest
returns-clause-shortest c = λ format k has.
    let found = c.any_choice-found in
    let trimmed = c.without_zeros-digits in
    let scale = c.raised-scale in
    found_shortest format c.args.mantissa k c.args.power c.args.half found.result.scale.up found.result.scale.down found.result.choice.count found.result.choice.tens
    trimmed.result.0 trimmed.result.1 scale.result.up scale.result.down has c.requires.most found.ensures.scale found.ensures.choice
    trimmed.ensures.value trimmed.ensures.whole trimmed.ensures.last (omega (arith, scale.ensures.up, scale.ensures.down))

pub returns-clause-value : goal.returns-clause-value
returns-clause-value c =
    let found = c.any_choice-found in
    let trimmed = c.without_zeros-digits in
    let scale = c.raised-scale in
    same_digits c.args.mantissa c.args.power c.args.half found.result.scale.up found.result.scale.down found.result.choice.count trimmed.result.0 trimmed.result.1 scale.result.up scale.result.down found.result.choice.tens
    c.requires.some c.requires.least c.requires.most c.requires.even found.ensures.scale found.ensures.choice trimmed.ensures.value trimmed.ensures.whole trimmed.ensures.last trimmed.ensures.few scale.ensures.up scale.ensures.down

pub returns-clause-trimmed : goal.returns-clause-trimmed
returns-clause-trimmed c =
    let found = c.any_choice-found in
    let trimmed = c.without_zeros-digits in
    let scale = c.raised-scale in
    is_trimmed _ _ _ _ found.result.choice.count trimmed.result.0 trimmed.result.1 found.result.scale.up found.result.scale.down scale.result.up scale.result.down found.result.choice.tens
    found.ensures.choice trimmed.ensures.value trimmed.ensures.whole trimmed.ensures.last scale.ensures.up scale.ensures.down
