use Rattle.std.proofs.Common.{◌≡◌, Some, None, rules, arith, length}
use Rattle.std.proofs.lemmas.Iterator.Consumers.{YieldsList-end, YieldsList-turn}
use Rattle.std.proofs.{lemmas.Iterator.YieldsList-from_chars, lemmas.List.length_push}
use Rattle.std.specs.Str.{chars}
use Rattle.folds.specs.Spellings.{byte_after, step}
use Rattle.folds.proofs.SpellingLemmas.{place_end, place_here, place_next, place_wrong}
use Rattle.folds.proofs.spelling.place_of.Goals as goal

pub returns-in_default : goal.returns-in_default
returns-in_default c =
    let turn = YieldsList-turn (YieldsList-from_chars c.args.written.now c.utf8.written cc)
    c.loop-c.yielded _ c.loop-c.yielded_by _ _ c.in-Some.c c.in-Some.is c.next.ensures.steps in
    let none : step c.loop-c.at.after c.in-Some.c ≡ None = search rules in
    place_wrong c.args.written.now c.loop-c.at (length c.loop-c.yielded) c.in-Some.c
    c.loop-c.byte _ turn none c.loop-c.invariant

pub returns-in_default-byte_after : goal.returns-in_default-byte_after
returns-in_default-byte_after c =
    let turn = YieldsList-turn (YieldsList-from_chars c.args.written.now c.utf8.written cc)
    c.loop-c.yielded _ c.loop-c.yielded_by _ _ c.in-Some.c c.in-Some.is c.next.ensures.steps in
    let goes : step c.loop-c.at.after c.in-Some.c
    ≡ Some (c.in-Some-step.after, c.in-Some-step.meant) = search rules in
    let here : byte_after c.loop-c.byte c.in-Some-step.meant ≡ None = search rules in
    place_here c.args.written.now c.loop-c.at (length c.loop-c.yielded) c.in-Some.c
    c.loop-c.byte _ c.place_by.result c.in-Some-step.after c.in-Some-step.meant turn goes here
    c.loop-c.invariant (rw c.begin_of.ensures at c.place_by.ensures)

pub loop-c-preserved : goal.loop-c-preserved
loop-c-preserved c =
    let turn = YieldsList-turn (YieldsList-from_chars c.args.written.now c.utf8.written cc)
    c.loop-c.yielded _ c.loop-c.yielded_by _ _ c.in-Some.c c.in-Some.is c.next.ensures.steps in
    let goes : step c.loop-c.at.after c.in-Some.c
    ≡ Some (c.in-Some-step.after, c.in-Some-step.meant) = search rules in
    let passes : byte_after c.loop-c.byte c.in-Some-step.meant ≡ Some c.in-Some-byte_after.next =
    search rules in
    rw (length_push c.loop-c.yielded c.in-Some.c, c.passed-at.ensures)
    (place_next c.loop-c.at (chars c.args.written.now) (length c.loop-c.yielded) c.in-Some.c
    c.loop-c.byte c.in-Some-byte_after.next _ c.in-Some-step.after c.in-Some-step.meant turn goes
    passes c.loop-c.invariant)

pub returns : goal.returns
returns c =
    let end = YieldsList-end (YieldsList-from_chars c.args.written.now c.utf8.written cc)
    c.loop-c.yielded _ c.loop-c.yielded_by _ _ c.in-None.is c.next.ensures.steps in
    place_end c.args.written.now c.loop-c.at (length c.loop-c.yielded) c.loop-c.byte _
    (omega (arith, end.1)) c.loop-c.invariant
