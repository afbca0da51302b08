use Rattle.std.proofs.Common.{rules, tests}
use Rattle.std.specs.Str.{chars}
use Rattle.std.proofs.lemmas.Iterator.{YieldsList-from_chars, YieldsList-from_map, text_from_collect}
use Rattle.interpolator.specs.Excerpts.{under}
use Rattle.interpolator.proofs.ExcerptLemmas.{signs_bytes}
use Rattle.interpolator.proofs.excerpt.signs_under.Goals as goal

pub returns : goal.returns
returns c =
    let all = text_from_collect c.collect.result c.collect.ensures.ran
    (YieldsList-from_map _ (under c.args.sign) (YieldsList-from_chars c.args.text.now c.utf8.text cc)
    c.map.ensures.closure (λ x r q k. search (rules, tests))) in
    rw (← signs_bytes c.args.sign (chars c.args.text.now) c.requires) all
