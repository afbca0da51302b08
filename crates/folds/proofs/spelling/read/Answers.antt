use Rattle.std.proofs.Common.{◌≡◌, Some, None, rules, arith, length, string_bytes}
use Rattle.std.proofs.lemmas.Iterator.Consumers.{YieldsList-end, YieldsList-turn}
use Rattle.std.proofs.{lemmas.Iterator.YieldsList-from_chars, lemmas.List.length_push}
use Rattle.std.specs.Str.{chars}
use Rattle.folds.specs.Spellings.{step}
use Rattle.folds.proofs.SpellingLemmas.{text_end, text_next, wrong_end, wrong_next, wrong_there}
use Rattle.folds.proofs.spelling.read.Goals as goal

pub returns-in_default : goal.returns-in_default
returns-in_default c =
    let turn = YieldsList-turn (YieldsList-from_chars c.args.written.now c.utf8.written cc)
    c.loop-c.yielded _ c.loop-c.yielded_by _ _ c.in-Some.c c.in-Some.is c.next.ensures.steps in
    let none : step c.loop-c.at.after c.in-Some.c ≡ None = search rules in
    wrong_there c.args.written.now c.loop-c.at (length c.loop-c.yielded) c.in-Some.c
    c.place_by.result turn c.loop-c.invariant.wrong none
    (rw c.begin_of.ensures at c.place_by.ensures)

pub loop-c-preserved : goal.loop-c-preserved
loop-c-preserved c =
    let turn = YieldsList-turn (YieldsList-from_chars c.args.written.now c.utf8.written cc)
    c.loop-c.yielded _ c.loop-c.yielded_by _ _ c.in-Some.c c.in-Some.is c.next.ensures.steps in
    let goes : step c.loop-c.at.after c.in-Some.c
    ≡ Some (c.in-Some-step.after, c.in-Some-step.meant) = search rules in
    rw (length_push c.loop-c.yielded c.in-Some.c, c.passed-at.ensures) (record {
      text = text_next c.loop-c.at (chars c.args.written.now) (length c.loop-c.yielded)
          c.in-Some.c c.in-Some-step.after c.in-Some-step.meant (string_bytes c.loop-c.text) _ _
          turn goes c.loop-c.invariant.text c.in_ok-push.ensures;
      wrong = wrong_next c.loop-c.at (chars c.args.written.now) (length c.loop-c.yielded)
          c.in-Some.c c.in-Some-step.after c.in-Some-step.meant _ turn goes
          c.loop-c.invariant.wrong;
    })

pub returns-then-is_open : goal.returns-then-is_open
returns-then-is_open c =
    let end = YieldsList-end (YieldsList-from_chars c.args.written.now c.utf8.written cc)
    c.loop-c.yielded _ c.loop-c.yielded_by _ _ c.in-None.is c.next.ensures.steps in
    wrong_end c.args.written.now c.loop-c.at (length c.loop-c.yielded)
    c.place_by-then-is_open.result (omega (arith, end.1)) c.loop-c.invariant.wrong (search rules)
    (rw c.begin_of-then-is_open.ensures at c.place_by-then-is_open.ensures)

pub returns : goal.returns
returns c =
    let end = YieldsList-end (YieldsList-from_chars c.args.written.now c.utf8.written cc)
    c.loop-c.yielded _ c.loop-c.yielded_by _ _ c.in-None.is c.next.ensures.steps in
    text_end c.args.written.now (string_bytes c.loop-c.text) c.loop-c.at
    (length c.loop-c.yielded) (omega (arith, end.1)) c.loop-c.invariant.text
    c.loop-c.invariant.wrong (search rules)
