use Rattle.std.proofs.Common.{◌≡◌, arith, length}
use Rattle.std.proofs.lemmas.Result.{err_from_is_err_and}
use Rattle.interpolator_escapes.proofs.RoomLemmas.{lays_more, lays_none, lays_last}
use Rattle.interpolator_escapes.proofs.escaped.put_steps.Goals as goal

pub loop-rest-preserved : goal.loop-rest-preserved
loop-rest-preserved g c =
    let l = c.loop-rest in (
      c.lay_known-rest.ensures.utf8,
      c.in_ok-make_place.ensures.place,
      lays_more c.args.escape _ _ l.rest.now _ c.lay_known-rest.result.now _ _ _ _ l.invariant.2
          c.lay_known-rest.ensures.same c.in_ok-make_place.ensures.moved,
    )

pub returns-in_err-make_place : goal.returns-in_err-make_place
returns-in_err-make_place g c =
    let p = err_from_is_err_and c.from_residual.result c.from_residual.ensures.1 in
    let l = c.loop-rest in
    rw p.1 (lays_none c.args.escape _ _ l.rest.now _ c.lay_known-rest.result.now _ _ _ p.0
    l.invariant.2 c.lay_known-rest.ensures.same c.in_err-make_place.ensures.moved)

pub returns : goal.returns
returns g c =
    let l = c.loop-rest in
    let none : length l.rest.now ≡ 0 = grind arith in
    lays_last c.args.escape _ _ l.rest.now _ _ _ _ l.invariant.2 none
    (rw c.as_str.ensures at c.put_text.ensures)
