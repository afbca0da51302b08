use Rattle.std.proofs.Common.{refl, rules}
use Rattle.interpolator_render.specs.Padding.{unset_spec}
use Rattle.interpolator.proofs.DecimalReadLemmas.{read_back}
use Rattle.interpolator.proofs.laws.decimals.decimal_is_read_back.Goals as goal

pub returns : goal.returns
returns c =
    (c.parse.ensures.spelled c.args.decimal).0
    (read_back _ _ unset_spec c.args.text.now refl refl c.requires, search rules)
