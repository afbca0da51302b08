use Rattle.std.proofs.{Common.refl, Common.sym, Common.arith, lemmas.Result.err_from_is_err_and}
use Rattle.interpolator_syntax.specs.Places.{at}
use Rattle.interpolator_syntax.proofs.TokenLemmas.{scan_shorter, token_shorter}
use Rattle.interpolator_eval.proofs.MeaningLemmas.FirstPieceLemmas.{passed_stops, passed_list}
use Rattle.interpolator_eval.proofs.MeaningLemmas.FirstPieceLemmas.{passed_on, passed_all}
use Rattle.interpolator_eval.proofs.evaluate.scan.write_tokens.Goals as goal

-- ---- Literals

pub returns-in_err-write_run-in-Literals : goal.returns-in_err-write_run-in-Literals
returns-in_err-write_run-in-Literals g c =
    let residual = c.from_residual in
    let err = err_from_is_err_and residual.result residual.ensures.1 in
    let stops = passed_stops _ _ _ c.loop-token.invariant c.tick.ensures.one
    (rw c.in-Literals.is at (sym c.in-Some.ensures.token))
    c.in_err-write_run-in-Literals.ensures.outcome in
    rw (err.1, err.2) (record { outcome = stops.0; met = tt; visited = stops.1; exact = tt })

pub loop-token-smaller-in_ok-write_run-in-Literals : goal.loop-token-smaller-in_ok-write_run-in-Literals
loop-token-smaller-in_ok-write_run-in-Literals g c =
    token_shorter (at c.loop-token.here) _ (sym c.in-Some.ensures.token)

pub loop-token-preserved-in_ok-write_run-in-Literals : goal.loop-token-preserved-in_ok-write_run-in-Literals
loop-token-preserved-in_ok-write_run-in-Literals g c =
    passed_on _ _ _ c.loop-token.invariant c.tick.ensures.one
    (rw c.in-Literals.is at (sym c.in-Some.ensures.token)) refl
    c.in_ok-write_run-in-Literals.ensures.outcome

-- ---- Doubled

pub returns-in_err-write_char-in-Doubled : goal.returns-in_err-write_char-in-Doubled
returns-in_err-write_char-in-Doubled g c =
    let residual = c.from_residual-in_err-write_char-in-Doubled in
    let err = err_from_is_err_and residual.result residual.ensures.1 in
    let stops = passed_stops _ _ _ c.loop-token.invariant c.tick.ensures.one
    (rw c.in-Doubled.is at (sym c.in-Some.ensures.token))
    c.in_err-write_char-in-Doubled.ensures.outcome in
    rw (err.1, err.2) (record { outcome = stops.0; met = tt; visited = stops.1; exact = tt })

pub loop-token-smaller-in_ok-write_char-in-Doubled : goal.loop-token-smaller-in_ok-write_char-in-Doubled
loop-token-smaller-in_ok-write_char-in-Doubled g c =
    token_shorter (at c.loop-token.here) _ (sym c.in-Some.ensures.token)

pub loop-token-preserved-in_ok-write_char-in-Doubled : goal.loop-token-preserved-in_ok-write_char-in-Doubled
loop-token-preserved-in_ok-write_char-in-Doubled g c =
    passed_on _ _ _ c.loop-token.invariant c.tick.ensures.one
    (rw c.in-Doubled.is at (sym c.in-Some.ensures.token)) refl
    c.in_ok-write_char-in-Doubled.ensures.outcome

-- ---- LoneClose

pub returns-in_err-write_char-in-LoneClose : goal.returns-in_err-write_char-in-LoneClose
returns-in_err-write_char-in-LoneClose g c =
    let residual = c.from_residual-in_err-write_char-in-LoneClose in
    let err = err_from_is_err_and residual.result residual.ensures.1 in
    let stops = passed_stops _ _ _ c.loop-token.invariant c.tick.ensures.one
    (rw c.in-LoneClose.is at (sym c.in-Some.ensures.token))
    c.in_err-write_char-in-LoneClose.ensures.outcome in
    rw (err.1, err.2) (record { outcome = stops.0; met = tt; visited = stops.1; exact = tt })

pub loop-token-smaller-in_ok-write_char-in-LoneClose : goal.loop-token-smaller-in_ok-write_char-in-LoneClose
loop-token-smaller-in_ok-write_char-in-LoneClose g c =
    token_shorter (at c.loop-token.here) _ (sym c.in-Some.ensures.token)

pub loop-token-preserved-in_ok-write_char-in-LoneClose : goal.loop-token-preserved-in_ok-write_char-in-LoneClose
loop-token-preserved-in_ok-write_char-in-LoneClose g c =
    passed_on _ _ _ c.loop-token.invariant c.tick.ensures.one
    (rw c.in-LoneClose.is at (sym c.in-Some.ensures.token)) refl
    c.in_ok-write_char-in-LoneClose.ensures.outcome

-- ---- an argument

pub returns-in_err-after-in-Argument : goal.returns-in_err-after-in-Argument
returns-in_err-after-in-Argument g c =
    let residual = c.from_residual-in_err-after-in-Argument in
    let err = err_from_is_err_and residual.result residual.ensures.1 in
    let stops = passed_stops _ _ _ c.loop-token.invariant c.tick.ensures.one
    (rw c.in-Argument.is at (sym c.in-Some.ensures.token))
    (c.in_err-after-in-Argument.ensures.outcome (at c.loop-token.here).place) in
    rw (err.1, err.2) (record { outcome = stops.0; met = tt; visited = stops.1; exact = tt })

pub returns-in-None : goal.returns-in-None
returns-in-None g c =
    let here = at c.loop-token.here in
    let is = rw c.in-Argument.is at (sym c.in-Some.ensures.token) in
    let reported = rw c.in-None.is at (c.in_ok-after-in-Argument.ensures.rest here.place) in
    let list = passed_list _ _ _ c.loop-token.invariant c.tick.ensures.one is reported.0
    (c.in_ok-after-in-Argument.ensures.outcome here.place) in
    record {
      outcome = list.0;
      met = (tt, rw list.1 reported.1);
      visited = omega (arith, list.2);
      exact = list.2;
    }

pub loop-token-smaller : goal.loop-token-smaller
loop-token-smaller g c =
    let here = at c.loop-token.here in
    let is = rw c.in-Argument.is at (sym c.in-Some.ensures.token) in
    let reported = rw c.in-Some-2.is at (c.in_ok-after-in-Argument.ensures.rest here.place) in
    scan_shorter here (at c.in-Some-2.after) _ is reported.1

pub loop-token-preserved : goal.loop-token-preserved
loop-token-preserved g c =
    let here = at c.loop-token.here in
    let is = rw c.in-Argument.is at (sym c.in-Some.ensures.token) in
    let reported = rw c.in-Some-2.is at (c.in_ok-after-in-Argument.ensures.rest here.place) in
    rw reported.1 (passed_on _ _ _ c.loop-token.invariant c.tick.ensures.one is reported.0
    (c.in_ok-after-in-Argument.ensures.outcome here.place))

-- ---- the end

pub returns : goal.returns
returns g c =
    let all = passed_all _ _ _ c.loop-token.invariant (sym c.in_default.ensures.token) in
    record { outcome = all.0; met = all.1; visited = omega (arith, all.2); exact = all.2 }
