use Rattle.std.proofs.Common.{rules, [], ◌∷◌}
use Rattle.words.proofs.flags.after_flag.Goals as goal

pub returns-then-is_some-clause-end : goal.returns-then-is_some-clause-end
returns-then-is_some-clause-end g c = (c.in_ok-flag.flag.now ∷ [], search rules)

pub returns-clause-end : goal.returns-clause-end
returns-clause-end g c =
    (c.in_ok-flag.flag.now ∷ c.in_ok-value.value.now ∷ [], search rules)
