use Rattle.std.proofs.Common.{◌-◌, ◌∙◌, ap, arith, drop, length, refl, rules}
use Rattle.interpolator_eval.specs.Names.{AreEnds, word}
use Rattle.interpolator_eval.proofs.NameLemmas.{by_ends, by_fronts}
use Rattle.interpolator_eval.proofs.names.has_ends.Goals as goal

pub returns-then-front_of-front : goal.returns-then-front_of-front
unfolding AreEnds
returns-then-front_of-front g c =
    let ends = c.requires.ends in
    let own = c.args.own.now in
    by_ends g.row.N (length c.args.name.now - g.row.N) own c.args.name.now
    (omega (arith, ends.2))
    ends.0 (search rules) (search rules) c.if-own-name.false ends.1 refl
    c.args.front c.front_of.result ends.3 c.front_of.ensures
    c.args.back c.back_of.result ends.4
    (c.back_of.ensures ∙ ap (λ k. word g.row.N (drop (k - g.row.N) own)) c.if-own-name.false)
    c.if-front_of-front.true

pub returns-else-front_of-front : goal.returns-else-front_of-front
unfolding AreEnds
returns-else-front_of-front g c =
    let ends = c.requires.ends in
    by_fronts g.row.N (length c.args.name.now - g.row.N) c.args.own.now c.args.name.now
    (omega (arith, ends.2)) ends.0 (search rules) (search rules) c.if-own-name.false ends.1 refl
    c.args.front c.front_of.result ends.3 c.front_of.ensures
    c.if-front_of-front.false
