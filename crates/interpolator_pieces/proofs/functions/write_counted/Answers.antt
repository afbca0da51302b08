use Rattle.std.proofs.Common.{arith, rules, chars, IsUtf8}
use Rattle.interpolator_syntax.specs.Places.{outermost}
use Rattle.interpolator_eval.specs.{Meaning.Environments.environment, Escaping.shows_by}
use Rattle.interpolator_pieces.proofs.{CallLemmas.text_written, CostLawLemmas.text_at_most}
use Rattle.interpolator_pieces.proofs.RunLemmas.{text_whole}
use Rattle.interpolator_pieces.proofs.functions.write_counted.Goals as goal

pub invariant_of-source : goal.invariant_of-source
invariant_of-source g c = grind (arith, text_whole)

pub returns-clause-written : goal.returns-clause-written
returns-clause-written g c =
    let utf8 : IsUtf8 c.args.format.text.now = search rules in
    text_written (shows_by g.E.Escaper.shown g.C.Object.Value.shows) (g.C.Context.finds c.args.context.now)
    c.args.format.text.now _ _ _ utf8 (grind arith)

pub returns-clause-visited : goal.returns-clause-visited
returns-clause-visited g c = grind arith

pub returns-clause-within : goal.returns-clause-within
returns-clause-within g c limits within =
    let cost = text_at_most (shows_by g.E.Escaper.shown g.C.Object.Value.shows) limits
    (environment (g.C.Context.finds c.args.context.now)) (outermost (chars c.args.format.text.now))
    within in grind arith

pub returns-clause-exact : goal.returns-clause-exact
returns-clause-exact g c = grind arith
