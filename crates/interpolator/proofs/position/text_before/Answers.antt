use Rattle.std.proofs.Common.{arith, rules, ◌≡◌, ◌∷◌, [], take, length-append}
use Rattle.interpolator.proofs.PositionLemmas.{read_none, read_more, begun_start, begun_more}
use Rattle.interpolator.proofs.PositionLemmas.{begun_there, begun_end}
use Rattle.interpolator.proofs.position.text_before.Goals as goal

pub loop-c-init : goal.loop-c-init
loop-c-init c = record {
  read = rw (c.into_iter-c-iterator.ensures.into_iter_gives, c.chars-c-items.ensures.rest)
      (read_none _ c.utf8.text);
  begun = begun_start _ _;
}

pub overflow_add-end : goal.overflow_add-end
overflow_add-end c =
    let more = read_more c.utf8.text c.loop-c.invariant.read _ _ _ c.len_utf8-end.ensures.value
    c.in-Some.ensures.steps.0 in omega (arith, more.boundary.0)

pub range-requires-clause-end_boundary : goal.range-requires-clause-end_boundary
range-requires-clause-end_boundary c = c.loop-c.invariant.read.boundary

pub returns-then-end-place : goal.returns-then-end-place
returns-then-end-place c =
    let front : c.range.result.now ≡ take c.loop-c.end c.args.text.now = search rules in
    rw front (begun_there c.utf8.text c.loop-c.invariant.read _ c.if-end-place.true
    c.loop-c.invariant.begun)

pub loop-c-preserved : goal.loop-c-preserved
loop-c-preserved c =
    let z = c.len_utf8-end.ensures.value in
    let e = c.in-Some.ensures.steps.0 in
    rw (length-append c.loop-c.yielded (c.in-Some.c ∷ [])) (record {
      read = read_more c.utf8.text c.loop-c.invariant.read _ _ _ z e;
      begun = begun_more c.utf8.text c.loop-c.invariant.read _ _ _ z e _ c.if-end-place.false
          c.loop-c.invariant.begun;
    })

pub returns : goal.returns
returns c = begun_end c.utf8.text c.loop-c.invariant.read _ c.in-None.ensures.steps.0.0
    c.loop-c.invariant.begun
