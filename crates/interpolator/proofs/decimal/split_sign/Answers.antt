use Rattle.std.proofs.{Common.None, Common.lit<, lemmas.Str.Pattern.strip_prefix_char}
use Rattle.interpolator.proofs.DecimalTextLemmas.{after_none}
use Rattle.interpolator.proofs.decimal.split_sign.Goals as goal

pub returns-in-None-clause-only : goal.returns-in-None-clause-only
returns-in-None-clause-only c =
    after_none c.args.text.now
    (strip_prefix_char 45 c.args.text.now None c.in_default.ensures.cases (lit< tt))
    (strip_prefix_char 43 c.args.text.now None c.in-None.ensures.cases (lit< tt))
