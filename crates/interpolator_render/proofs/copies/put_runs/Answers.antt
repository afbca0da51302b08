use Rattle.std.proofs.Common.{◌≡◌, ◌-◌, arith, refl}
use Rattle.std.proofs.lemmas.List.{length-replicate}
use Rattle.interpolator_render.proofs.CopyLemmas.{copies_more, copies_stop}
use Rattle.interpolator_render.proofs.{LayoutLemmas.refused_whole, WrittenLemmas.stays_within}
use Rattle.interpolator_render.proofs.copies.put_runs.Goals as goal

pub returns-in_err-reserve : goal.returns-in_err-reserve
returns-in_err-reserve g c = grind (arith, length-replicate, refused_whole)

pub returns-in-Err : goal.returns-in-Err
returns-in-Err g c = let l = c.loop-left in rw (← stays_within _ _ _ _ c.in_ok-reserve.ensures)
    (copies_stop _ _ _ c.args.count l.left 64 c.args.run.c _ c.in-Err.refusal.taken _ (omega arith)
    l.invariant.0 refl c.refused_after.ensures l.invariant.1 c.in-Err.ensures)

pub loop-left-preserved : goal.loop-left-preserved
loop-left-preserved g c = let l = c.loop-left in
    let more = copies_more _ _ _ c.args.count l.left 64 c.args.run.c (omega arith)
    l.invariant.0 l.invariant.1 c.in_default.ensures in (omega arith, more)

pub returns-in-Err-put_few : goal.returns-in-Err-put_few
returns-in-Err-put_few g c = let l = c.loop-left in rw (← stays_within _ _ _ _ c.in_ok-reserve.ensures)
    (copies_stop _ _ _ c.args.count l.left l.left c.args.run.c _ c.in-Err-put_few.refusal.taken _
    (omega arith) l.invariant.0 refl c.refused_after-in-Err-put_few.ensures l.invariant.1
    c.in-Err-put_few.ensures)

pub returns : goal.returns
returns g c = let l = c.loop-left in
    let all : c.args.count - (l.left - l.left) ≡ c.args.count = omega arith in
    rw (← stays_within _ _ _ _ c.in_ok-reserve.ensures)
    (rw all at (copies_more _ _ _ c.args.count l.left l.left c.args.run.c (omega arith)
    l.invariant.0 l.invariant.1 c.in_default-put_few.ensures))
