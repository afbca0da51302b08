use Rattle.std.proofs.Common.{◌∙◌, refl, sym, arith, map, append-nil}
use Rattle.interpolator_syntax.specs.{Arguments.argument_of, Places.at, Places.strip}
use Rattle.interpolator_syntax.specs.{Classes.close_brace}
use Rattle.interpolator_syntax.specs.{Tokens.argument, Tokens.token_of}
use Rattle.interpolator_syntax.proofs.TokenLemmas.{token_shorter, scan_shorter}
use Rattle.interpolator_pieces.proofs.AllArgumentLemmas.{no_argument, gathers_on, all_gathered}
use Rattle.interpolator_pieces.proofs.AllArgumentLemmas.{argument_pushed, kind_fits}
use Rattle.interpolator_pieces.proofs.ParseLemmas.{ending_is, taken_is, broken_is}
use Rattle.interpolator_pieces.proofs.arguments.+arguments.Goals as goal

pub push_argument-push_groups-requires : goal.push_argument-push_groups-requires
push_argument-push_groups-requires t c =
    let taken = c.in-Ok.ensures in
    let fits = kind_fits (at c.args.here) c.in-Ok.taken taken.read taken.rest
    c.argument_of-argument.result c.argument_of-argument.ensures in omega arith

pub push_argument-returns-in_ok-push_groups-in-Ok-clause-rest :
    goal.push_argument-returns-in_ok-push_groups-in-Ok-clause-rest
push_argument-returns-in_ok-push_groups-in-Ok-clause-rest t c =
    let here = at c.args.here in
    let end = at c.in-Ok.taken.end in
    rw (taken_is here c.in-Ok.taken c.in-Ok.ensures.read c.in-Ok.ensures.rest, c.in-Ok.ensures.rest)
    (c.ending.ensures.rest
    ∙ ending_is c.args.here.place here _ end (strip close_brace end) (sym c.in-Ok.ensures.read))

pub push_argument-returns-in_ok-push_groups-in-Ok-clause-pushed :
    goal.push_argument-returns-in_ok-push_groups-in-Ok-clause-pushed
push_argument-returns-in_ok-push_groups-in-Ok-clause-pushed t c =
    argument_pushed (at c.args.here) c.in-Ok.taken c.in-Ok.ensures.read c.in-Ok.ensures.rest
    _ _ _ c.argument_of-argument.result c.argument_of-argument.ensures
    c.in_ok-push-in-Ok.ensures.items c.in_ok-push_groups-in-Ok.ensures

pub push_argument-returns-in-Err-clause-rest : goal.push_argument-returns-in-Err-clause-rest
push_argument-returns-in-Err-clause-rest t c = grind (arith, broken_is)

pub push_argument-returns-in-Err-clause-pushed : goal.push_argument-returns-in-Err-clause-pushed
push_argument-returns-in-Err-clause-pushed t c = grind (arith, broken_is, append-nil)

pub push_arguments-loop-token-init : goal.push_arguments-loop-token-init
push_arguments-loop-token-init t c = grind arith

pub push_arguments-push_argument-requires : goal.push_arguments-push_argument-requires
push_arguments-push_argument-requires t c =
    let token = rw c.in-Argument.is at (sym c.in-Some.ensures.token) in
    omega (arith, token_shorter (at c.loop-token.here) _ token, c.loop-token.invariant.left)

pub push_arguments-loop-token-smaller-in_ok-here-in-Argument :
    goal.push_arguments-loop-token-smaller-in_ok-here-in-Argument
push_arguments-loop-token-smaller-in_ok-here-in-Argument t c =
    scan_shorter (at c.loop-token.here) _ (argument, at c.in-Some.rest)
    (rw c.in-Argument.is at (sym c.in-Some.ensures.token)) c.in_ok-here-in-Argument.ensures.rest

pub push_arguments-loop-token-preserved-in_ok-here-in-Argument :
    goal.push_arguments-loop-token-preserved-in_ok-here-in-Argument
push_arguments-loop-token-preserved-in_ok-here-in-Argument t c =
    gathers_on _ (at c.loop-token.here) _ _ c.loop-token.invariant argument _ _ _
    (rw c.in-Argument.is at (sym c.in-Some.ensures.token)) c.in_ok-here-in-Argument.ensures.rest
    c.in_ok-here-in-Argument.ensures.pushed

pub push_arguments-loop-token-smaller : goal.push_arguments-loop-token-smaller
push_arguments-loop-token-smaller t c =
    token_shorter (at c.loop-token.here) _ (sym c.in-Some.ensures.token)

pub push_arguments-loop-token-preserved : goal.push_arguments-loop-token-preserved
push_arguments-loop-token-preserved t c =
    let none = no_argument c.in-Some.token (at c.in-Some.rest) c.in_default-token.not-Argument in
    gathers_on _ (at c.loop-token.here) _ _ c.loop-token.invariant (token_of c.in-Some.token) _ _ _
    (sym c.in-Some.ensures.token) (sym none.1)
    (rw (none.0, append-nil (map argument_of c.loop-token.arguments.items)) refl)

pub push_arguments-returns : goal.push_arguments-returns
push_arguments-returns t c =
    all_gathered _ _ _ _ c.loop-token.invariant (sym c.in_default.ensures.token)
