use Rattle.std.proofs.{Common.arith, lemmas.Result.err_from_is_err_and}
use Rattle.interpolator_render.specs.Quoting.{escape_of}
use Rattle.interpolator_render.proofs.QuotingLemmas.{escaped_wide, runs_none, runs_plain}
use Rattle.interpolator_render.proofs.QuotingLemmas.{runs_escaped, runs_stop, runs_last}
use Rattle.interpolator_render.proofs.quoting.put_inside.Goals as goal
use Rattle.interpolator_render.proofs.quoting.put_inside.Goals.{then-is_escaped+in_ok-put_run}
use Rattle.interpolator_render.proofs.quoting.put_inside.Goals.{else-is_escaped}

pub loop-index-init : goal.loop-index-init
loop-index-init g c = runs_none (escape_of c.args.quote) _ _ c.utf8.text

pub returns-in_err-put_run : goal.returns-in_err-put_run
returns-in_err-put_run g c =
    let p = err_from_is_err_and c.from_residual.result c.from_residual.ensures.1 in
    let l = c.loop-index in
    rw p.1 (runs_stop (escape_of c.args.quote) c.args.text.now l.start l.index _ _ _
    (λ x. escaped_wide c.args.quote x c.requires) c.utf8.text (grind arith) (grind arith)
    l.invariant (grind arith))

pub loop-index-preserved : goal.loop-index-preserved
loop-index-preserved g c = let l = c.loop-index in elim c.if-is_escaped.branch [
  | then-is_escaped+in_ok-put_run w ↦
      rw (w.start-is, w.out-is) (runs_escaped (escape_of c.args.quote) c.args.text.now l.start
      l.index _ _ _ (λ x. escaped_wide c.args.quote x c.requires) c.utf8.text (grind arith)
      (grind arith) l.invariant (grind arith))
  | else-is_escaped w ↦
      rw (w.start-is, w.out-is) (runs_plain (escape_of c.args.quote) c.args.text.now l.start
      l.index _ _ (grind arith) l.invariant)
]

pub returns : goal.returns
returns g c = grind (arith, runs_last, escaped_wide)
