use Rattle.std.proofs.Common.{◌≤◌, ◌∙◌, arith, length, length-drop}
use Rattle.interpolator_escapes.proofs.RoomLemmas.{cut_at_mark, plain_to_mark, plain_block}
use Rattle.interpolator_escapes.proofs.RoomLemmas.{run_laid, boundary_in_block}
use Rattle.interpolator_escapes.proofs.escaped.lay_next.Goals as goal

pub lay_run-rest-requires-clause-cut : goal.lay_run-rest-requires-clause-cut
lay_run-rest-requires-clause-cut c =
    cut_at_mark c.args.escape c.as_bytes.result.now c.args.text.now _ c.as_bytes.ensures.value
    (omega (arith, c.if-text-lt-BLOCK.false)) c.front_of_block-front.ensures
    c.if-front-lt-BLOCK.true

pub returns-then-front-lt-BLOCK-clause-same : goal.returns-then-front-lt-BLOCK-clause-same
returns-then-front-lt-BLOCK-clause-same c =
    let long : 16 ≤ length c.args.text.now = omega (arith, c.if-text-lt-BLOCK.false) in
    c.lay_first.ensures.same
    ∙ rw c.lay_run-rest.ensures.rest (run_laid c.args.escape c.args.text.now _ _ _ c.utf8.text
    (cut_at_mark c.args.escape _ _ _ c.as_bytes.ensures.value long c.front_of_block-front.ensures
    c.if-front-lt-BLOCK.true)
    (plain_to_mark c.args.escape _ _ _ c.as_bytes.ensures.value c.utf8.text long
    c.front_of_block-front.ensures c.if-front-lt-BLOCK.true) c.lay_run-rest.ensures.text)

pub returns-then-front-lt-BLOCK-clause-shorter : goal.returns-then-front-lt-BLOCK-clause-shorter
returns-then-front-lt-BLOCK-clause-shorter c = grind (arith, length-drop)

pub returns-clause-same : goal.returns-clause-same
returns-clause-same c =
    let long : 16 ≤ length c.args.text.now = omega (arith, c.if-text-lt-BLOCK.false) in
    rw c.lay_run.ensures.rest (run_laid c.args.escape c.args.text.now _ _ _ c.utf8.text
    c.floor_char_boundary.ensures.boundary
    (plain_block c.args.escape _ _ _ _ c.as_bytes.ensures.value c.utf8.text long
    c.front_of_block-front.ensures (omega (arith, c.if-front-lt-BLOCK.false))
    c.floor_char_boundary.ensures.bound c.floor_char_boundary.ensures.boundary)
    c.lay_run.ensures.text)

pub returns-clause-shorter : goal.returns-clause-shorter
returns-clause-shorter c =
    let long : 16 ≤ length c.args.text.now = omega (arith, c.if-text-lt-BLOCK.false) in
    let some = boundary_in_block c.args.text.now _ c.utf8.text long
    c.floor_char_boundary.ensures.nearest in
    grind (arith, length-drop)
