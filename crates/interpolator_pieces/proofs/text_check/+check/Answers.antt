use Rattle.std.proofs.Common.{◌≡◌, arith, refl, sym}
use Rattle.std.proofs.lemmas.Result.{err_from_is_err_and}
use Rattle.interpolator_render.specs.declared.view.Trait.TheVariants.{Display}
use Rattle.interpolator_syntax.specs.Arguments.{kind_of_request, list_of}
use Rattle.interpolator_syntax.specs.{Places.at, SpecTexts.of_list, Tokens.argument}
use Rattle.interpolator_syntax.proofs.PieceLemmas.{read_alone}
use Rattle.interpolator_syntax.proofs.TokenLemmas.{scan_shorter, token_shorter}
use Rattle.interpolator_eval.proofs.MeaningLemmas.GroupSizeLemmas.{groups_within}
use Rattle.interpolator_eval.proofs.MeaningLemmas.LookUpLemmas.{value_asked}
use Rattle.interpolator_eval.proofs.MeaningLemmas.ScanLemmas.{asked_broken, asked_ok}
use Rattle.interpolator_pieces.proofs.TextCheckLemmas.{broken_faults, faults_next, first_reported}
use Rattle.interpolator_pieces.proofs.TextCheckLemmas.{list_reported, none_left, none_reported}
use Rattle.interpolator_pieces.proofs.TextCheckLemmas.{rest_after}
use Rattle.interpolator_pieces.proofs.TextCheckLemmas.{rest_read, text_passed, value_faults}
use Rattle.interpolator_pieces.proofs.text_check.+check.Goals as goal

-- ---- a text

pub check_text-check_argument-requires : goal.check_text-check_argument-requires
check_text-check_argument-requires t c =
    let token = rw c.in-Argument.is at (sym c.in-Some.ensures.token) in
    omega (arith, token_shorter (at c.loop-token.here) _ token, c.loop-token.invariant.within)

pub check_text-returns-in_err-here-in-Argument : goal.check_text-returns-in_err-here-in-Argument
check_text-returns-in_err-here-in-Argument t c =
    let here = at c.loop-token.here in
    let err = err_from_is_err_and c.from_residual.result c.from_residual.ensures.1 in
    let token = rw c.in-Argument.is at (sym c.in-Some.ensures.token) in
    let next = faults_next here (argument, at c.in-Some.rest) token in
    record {
      first = rw (err.1, err.2, c.loop-token.invariant.same, next)
          (sym (first_reported _ _ _ (sym (c.in_err-here-in-Argument.ensures.first here.place))));
    }

pub check_text-loop-token-smaller-in-Literals : goal.check_text-loop-token-smaller-in-Literals
check_text-loop-token-smaller-in-Literals t c =
    token_shorter (at c.loop-token.here) _ (sym c.in-Some.ensures.token)

pub check_text-loop-token-preserved-in-Literals : goal.check_text-loop-token-preserved-in-Literals
check_text-loop-token-preserved-in-Literals t c =
    text_passed _ _ _ c.loop-token.invariant (rw c.in-Literals.is at (sym c.in-Some.ensures.token)) refl

pub check_text-loop-token-smaller-in-Doubled : goal.check_text-loop-token-smaller-in-Doubled
check_text-loop-token-smaller-in-Doubled t c =
    token_shorter (at c.loop-token.here) _ (sym c.in-Some.ensures.token)

pub check_text-loop-token-preserved-in-Doubled : goal.check_text-loop-token-preserved-in-Doubled
check_text-loop-token-preserved-in-Doubled t c =
    text_passed _ _ _ c.loop-token.invariant (rw c.in-Doubled.is at (sym c.in-Some.ensures.token)) refl

pub check_text-loop-token-smaller-in-LoneClose : goal.check_text-loop-token-smaller-in-LoneClose
check_text-loop-token-smaller-in-LoneClose t c =
    token_shorter (at c.loop-token.here) _ (sym c.in-Some.ensures.token)

pub check_text-loop-token-preserved-in-LoneClose : goal.check_text-loop-token-preserved-in-LoneClose
check_text-loop-token-preserved-in-LoneClose t c =
    text_passed _ _ _ c.loop-token.invariant (rw c.in-LoneClose.is at (sym c.in-Some.ensures.token)) refl

pub check_text-loop-token-smaller : goal.check_text-loop-token-smaller
check_text-loop-token-smaller t c =
    scan_shorter (at c.loop-token.here) _ (argument, at c.in-Some.rest)
    (rw c.in-Argument.is at (sym c.in-Some.ensures.token)) c.in_ok-here-in-Argument.ensures.rest

pub check_text-loop-token-preserved : goal.check_text-loop-token-preserved
check_text-loop-token-preserved t c =
    let here = at c.loop-token.here in
    let token = rw c.in-Argument.is at (sym c.in-Some.ensures.token) in
    let none = none_reported _ (sym (c.in_ok-here-in-Argument.ensures.first here.place)) in
    rw c.in_ok-here-in-Argument.ensures.rest
    (text_passed _ _ _ c.loop-token.invariant token none)

pub check_text-returns : goal.check_text-returns
check_text-returns t c =
    let none = none_left (at c.loop-token.here) (sym c.in_default.ensures.token) in
    record { first = rw (c.loop-token.invariant.same, none) refl }

-- ---- an argument

pub check_argument-returns-in-Some-clause-first : goal.check_argument-returns-in-Some-clause-first
check_argument-returns-in-Some-clause-first t c p =
    let here = at c.args.here in
    let closed = sym c.in-Some.ensures in
    let read = read_alone here c.take_name-named.result _ c.take_name-named.ensures.read closed in
    rw (value_faults here p _ _ read Display refl, closed) refl

pub check_argument-returns-in-Some-clause-rest : goal.check_argument-returns-in-Some-clause-rest
check_argument-returns-in-Some-clause-rest t c =
    let here = at c.args.here in
    let closed = sym c.in-Some.ensures in
    let read = read_alone here c.take_name-named.result _ c.take_name-named.ensures.read closed in
    rest_after here _ _ read _ closed

pub check_asked-returns-in-Err-clause-first : goal.check_asked-returns-in-Err-clause-first
check_asked-returns-in-Err-clause-first t c p =
    let read = asked_broken (at c.args.here) c.args.named c.requires.named _ c.in-Err.ensures in
    rw (c.from.ensures, broken_faults (at c.args.here) p _ read) refl

pub check_asked-check_list-requires : goal.check_asked-check_list-requires
check_asked-check_list-requires t c =
    let asked = c.take_request.new.asked in
    let read = asked_ok (at c.args.here) c.args.named c.requires.named _ _ c.in-Ok.ensures in
    let list : kind_of_request asked ≡ of_list (list_of asked.list) = rw c.in-Iter.is refl in
    grind (arith, groups_within (at c.args.here) _ _ read, list)

pub check_asked-returns-in_err-check_list-in-Iter-clause-first :
    goal.check_asked-returns-in_err-check_list-in-Iter-clause-first
check_asked-returns-in_err-check_list-in-Iter-clause-first t c p =
    let asked = c.take_request.new.asked in
    let read = asked_ok (at c.args.here) c.args.named c.requires.named _ _ c.in-Ok.ensures in
    let list : kind_of_request asked ≡ of_list (list_of asked.list) = rw c.in-Iter.is refl in
    let err = err_from_is_err_and c.from_residual.result c.from_residual.ensures.1 in
    rw (err.1, err.2, list_reported (at c.args.here) p _ _ read _ list)
    (sym (first_reported _ _ _ (sym c.in_err-check_list-in-Iter.ensures.first)))

pub check_asked-returns-in_ok-check_list-in-Iter-clause-first :
    goal.check_asked-returns-in_ok-check_list-in-Iter-clause-first
check_asked-returns-in_ok-check_list-in-Iter-clause-first t c p =
    let asked = c.take_request.new.asked in
    let read = asked_ok (at c.args.here) c.args.named c.requires.named _ _ c.in-Ok.ensures in
    let list : kind_of_request asked ≡ of_list (list_of asked.list) = rw c.in-Iter.is refl in
    let none = none_reported _ (sym c.in_ok-check_list-in-Iter.ensures.first) in
    rw (list_reported (at c.args.here) p _ _ read _ list, none) c.require_brace.ensures.first

pub check_asked-returns-in_ok-check_list-in-Iter-clause-rest :
    goal.check_asked-returns-in_ok-check_list-in-Iter-clause-rest
check_asked-returns-in_ok-check_list-in-Iter-clause-rest t c =
    let read = asked_ok (at c.args.here) c.args.named c.requires.named _ _ c.in-Ok.ensures in
    rest_read (at c.args.here) _ _ read c.require_brace.result c.require_brace.ensures.rest

pub check_asked-returns-in_default : goal.check_asked-returns-in_default
check_asked-returns-in_default t c =
    let asked = c.take_request.new.asked in
    let read = asked_ok (at c.args.here) c.args.named c.requires.named _ _ c.in-Ok.ensures in
    let value = value_asked asked.slot (list_of asked.list) c.in_default.not-Iter in
    record {
      first = λ p. rw (value_faults (at c.args.here) p _ _ read _ value)
          c.require_brace-in_default.ensures.first;
      rest = rest_read (at c.args.here) _ _ read c.require_brace-in_default.result
          c.require_brace-in_default.ensures.rest;
    }
