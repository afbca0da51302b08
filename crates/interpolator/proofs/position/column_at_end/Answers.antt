use Rattle.std.proofs.Common.{◌+◌, ◌∙◌, sym, length, ap, arith}
use Rattle.std.proofs.lemmas.Iterator.Consumers.{YieldsList-end, YieldsList-turn}
use Rattle.std.proofs.{lemmas.Iterator.YieldsList-from_chars, lemmas.List.map-id}
use Rattle.interpolator.specs.Positions.{last_line}
use Rattle.interpolator.proofs.PositionLemmas.{characters_short, last_line_ends, last_line_goes_on}
use Rattle.interpolator.proofs.PositionLemmas.{last_line_short}
use Rattle.interpolator.proofs.position.column_at_end.Goals as goal

pub loop-c-preserved-then-c-eq10 : goal.loop-c-preserved-then-c-eq10
loop-c-preserved-then-c-eq10 c = last_line_ends c.loop-c.yielded c.in-Some.c c.if-c-eq10.true

pub loop-c-preserved : goal.loop-c-preserved
loop-c-preserved c =
    last_line_goes_on c.loop-c.yielded c.in-Some.c _ c.if-c-eq10.false c.loop-c.invariant

pub overflow_add-column : goal.overflow_add-column
overflow_add-column c =
    let turn = YieldsList-turn (YieldsList-from_chars c.args.text.now c.utf8.text cc) c.loop-c.yielded _
    c.loop-c.yielded_by _ _ c.in-Some.c c.in-Some.is c.next.ensures.steps in
    omega (
      arith,
      turn.0,
      last_line_short c.loop-c.yielded,
      c.loop-c.invariant,
      characters_short c.args.text.now c.utf8.text,
    )

pub returns : goal.returns
returns c =
    let all = YieldsList-end (YieldsList-from_chars c.args.text.now c.utf8.text cc) c.loop-c.yielded _
    c.loop-c.yielded_by _ _ c.in-None.is c.next.ensures.steps in
    c.loop-c.invariant
    ∙ ap (λ cs. length (last_line cs) + 1) (sym (map-id c.loop-c.yielded) ∙ all.0)
