use Rattle.std.proofs.Common.{rules, ◌∙◌, ◌-◌, refl}
use Rattle.interpolator_floats.proofs.FloatLemmas.{high_text, kept, low_text}
use Rattle.interpolator_floats.proofs.digits.short_digits.Goals as goal

pub returns-then-power-ge1074-clause-text : goal.returns-then-power-ge1074-clause-text
returns-then-power-ge1074-clause-text c =
    c.split_count.ensures.text ∙ high_text c.args.mantissa c.args.power c.args.precision _ (search rules)
    (kept c.args.mantissa (c.args.power - 1074) c.requires.short (search rules))

pub returns-clause-text : goal.returns-clause-text
returns-clause-text c =
    c.split_count-2.ensures.text
    ∙ low_text c.args.mantissa c.args.power c.args.precision _ _ (search rules) (search rules) (search rules) (search rules) (search rules)

pub returns-then-places-le19-clause-text : goal.returns-then-places-le19-clause-text
returns-then-places-le19-clause-text c =
    c.near_digits.ensures.text
    ∙ low_text c.args.mantissa c.args.power c.args.precision _ _ (search rules) (search rules) (search rules) (search rules) refl
