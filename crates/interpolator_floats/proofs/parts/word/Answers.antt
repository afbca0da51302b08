use Rattle.std.proofs.Common.{rules, true≢false, refl}
use Rattle.interpolator_floats.proofs.PartLemmas.{finite_rest, inf_not_finite, inf_word, nan_not_finite, nan_word}
use Rattle.interpolator_floats.proofs.parts.word.Goals as goal

pub returns-then-is_nan-clause-finite : goal.returns-then-is_nan-clause-finite
returns-then-is_nan-clause-finite c =
    (λ e. absurd (true≢false e), λ f. absurd (nan_not_finite c.args.x (search rules) f))

pub returns-then-is_nan-clause-text : goal.returns-then-is_nan-clause-text
returns-then-is_nan-clause-text c = nan_word c.args.x (search rules)

pub returns-then-is_infinite-clause-finite : goal.returns-then-is_infinite-clause-finite
returns-then-is_infinite-clause-finite c =
    (λ e. absurd (true≢false e), λ f. absurd (inf_not_finite c.args.x (search rules) f))

pub returns-then-is_infinite-clause-text : goal.returns-then-is_infinite-clause-text
returns-then-is_infinite-clause-text c = inf_word c.args.x (search rules)

pub returns-clause-finite : goal.returns-clause-finite
returns-clause-finite c = (λ e. finite_rest c.args.x (search rules) (search rules), λ f. refl)
