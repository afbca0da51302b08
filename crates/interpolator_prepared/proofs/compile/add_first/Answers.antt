use Rattle.interpolator_prepared.proofs.CompileLemmas.{first_whole, one_added, rest_whole}
use Rattle.interpolator_prepared.proofs.CompileLemmas.{two_added, texts_after_fit}
use Rattle.interpolator_prepared.proofs.compile.add_first.Goals as goal

pub first_step-requires-clause-texts : goal.first_step-requires-clause-texts
first_step-requires-clause-texts g c =
    rw (c.split_at.ensures.front, c.texts_after.ensures.count)
    (texts_after_fit (g.N.Names.known c.args.names) c.args.text.now c.in-Some.piece.now
    c.in-Some.after.now (rw c.in-Some.ensures.cases.0 at c.requires.whole))

pub argument_step-requires : goal.argument_step-requires
argument_step-requires g c =
    let names = g.N.Names.known c.args.names in
    let left = rest_whole names c.args.text.now _ c.in-Some.piece.now c.in-Some.after.now
    c.split_at.result.1.now c.texts_after.result c.in-Some.ensures.cases.0
    c.texts_after.ensures.count c.split_at.ensures.back c.requires.whole in
    record {
      whole = (first_whole names c.args.text.now c.in-Some-split_first.next.now
          c.in-Some-split_first.left.now (rw c.in-Some-split_first.ensures.cases.0 at left)).0;
    }

pub returns-in-Some-split_first-clause-whole : goal.returns-in-Some-split_first-clause-whole
returns-in-Some-split_first-clause-whole g c =
    let names = g.N.Names.known c.args.names in
    let left = rest_whole names c.args.text.now _ c.in-Some.piece.now c.in-Some.after.now
    c.split_at.result.1.now c.texts_after.result c.in-Some.ensures.cases.0
    c.texts_after.ensures.count c.split_at.ensures.back c.requires.whole in
    (first_whole names c.args.text.now c.in-Some-split_first.next.now
    c.in-Some-split_first.left.now (rw c.in-Some-split_first.ensures.cases.0 at left)).1

pub returns-in-Some-split_first-clause-added : goal.returns-in-Some-split_first-clause-added
returns-in-Some-split_first-clause-added g c =
    two_added (g.N.Names.known c.args.names) c.args.text.now _ c.in-Some.piece.now
    c.in-Some.after.now c.split_at.result.1.now c.texts_after.result c.in-Some.ensures.cases.0
    c.texts_after.ensures.count c.split_at.ensures.back c.requires.whole _ _ c.in_ok-step.step
    (rw (c.split_at.ensures.front, c.texts_after.ensures.count) at c.in_ok-step.ensures.step)
    c.in-Some-split_first.next.now c.in-Some-split_first.left.now
    c.in-Some-split_first.ensures.cases.0 (rw c.is_text.ensures at c.if-is_text.true)
    c.in_ok-argument.argument c.in_ok-argument.ensures.step
    (c.in_ok-push_pair.ensures.pushed c.args.text.now)

pub returns-clause-whole : goal.returns-clause-whole
returns-clause-whole g c =
    rest_whole (g.N.Names.known c.args.names) c.args.text.now _ c.in-Some.piece.now
    c.in-Some.after.now c.split_at.result.1.now c.texts_after.result c.in-Some.ensures.cases.0
    c.texts_after.ensures.count c.split_at.ensures.back c.requires.whole

pub returns-clause-added : goal.returns-clause-added
returns-clause-added g c =
    one_added (g.N.Names.known c.args.names) c.args.text.now _ c.in-Some.piece.now
    c.in-Some.after.now c.split_at.result.1.now c.texts_after.result c.in-Some.ensures.cases.0
    c.texts_after.ensures.count c.split_at.ensures.back c.requires.whole _ _ c.in_ok-step.step
    (rw (c.split_at.ensures.front, c.texts_after.ensures.count) at c.in_ok-step.ensures.step)
    (c.in_ok-push_step.ensures.pushed c.args.text.now)
