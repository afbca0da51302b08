use Rattle.std.proofs.Common.{refl, sym, arith, rules}
use Rattle.interpolator_syntax.specs.declared.piece_kind.PieceKind.TheVariants.{Literal, Doubled}
use Rattle.interpolator_syntax.specs.declared.piece_kind.PieceKind.TheVariants.{LoneClose}
use Rattle.interpolator_syntax.specs.{Places.at, Tokens.argument}
use Rattle.interpolator_syntax.proofs.TokenLemmas.{scan_shorter, token_shorter}
use Rattle.interpolator_syntax.proofs.TokenTextLemmas.{takes_token}
use Rattle.interpolator_eval.proofs.MeaningLemmas.GroupSizeLemmas.{groups_within}
use Rattle.interpolator_eval.proofs.MeaningLemmas.ScanLemmas.{asked_ok, asked_broken}
use Rattle.interpolator_pieces.proofs.WithinLemmas.{after_front}
use Rattle.interpolator_pieces.proofs.ParseLemmas.{rest_is, list_pushed, broken_is, left_within}
use Rattle.interpolator_pieces.proofs.ParseLemmas.{text_reads, name_pushed, name_closes, name_rest}
use Rattle.interpolator_pieces.proofs.ParseLemmas.{reads_on, all_read}
use Rattle.interpolator_pieces.proofs.parse.+parse.Goals as goal

pub parse_pieces-push_argument_piece-requires : goal.parse_pieces-push_argument_piece-requires
parse_pieces-push_argument_piece-requires t c =
    let here = at c.loop-token.here in
    let token = rw c.in-Argument.is at (sym c.in-Some.ensures.token) in
    let left = left_within (at c.args.text) here _ c.loop-token.invariant in
    (omega (arith, token_shorter here _ token, left), (takes_token here _ token).size)

pub parse_pieces-loop-token-smaller-in_ok-push_piece-in-Literals :
    goal.parse_pieces-loop-token-smaller-in_ok-push_piece-in-Literals
parse_pieces-loop-token-smaller-in_ok-push_piece-in-Literals t c =
    token_shorter (at c.loop-token.here) _ (sym c.in-Some.ensures.token)

pub parse_pieces-loop-token-preserved-in_ok-push_piece-in-Literals :
    goal.parse_pieces-loop-token-preserved-in_ok-push_piece-in-Literals
parse_pieces-loop-token-preserved-in_ok-push_piece-in-Literals t c =
    text_reads _ _ _ c.loop-token.invariant _ _ _ _ Literal (sym c.in-Some.ensures.token)
    (rw c.in-Literals.is refl) c.in_ok-push_piece-in-Literals.ensures
    c.bare_piece-piece.ensures.node

pub parse_pieces-loop-token-smaller-in_ok-push_piece-in-Doubled :
    goal.parse_pieces-loop-token-smaller-in_ok-push_piece-in-Doubled
parse_pieces-loop-token-smaller-in_ok-push_piece-in-Doubled t c =
    token_shorter (at c.loop-token.here) _ (sym c.in-Some.ensures.token)

pub parse_pieces-loop-token-preserved-in_ok-push_piece-in-Doubled :
    goal.parse_pieces-loop-token-preserved-in_ok-push_piece-in-Doubled
parse_pieces-loop-token-preserved-in_ok-push_piece-in-Doubled t c =
    text_reads _ _ _ c.loop-token.invariant _ _ _ _ Doubled (sym c.in-Some.ensures.token)
    (rw c.in-Doubled.is refl) c.in_ok-push_piece-in-Doubled.ensures
    c.bare_piece-piece-in-Doubled.ensures.node

pub parse_pieces-loop-token-smaller-in_ok-push_piece-in-LoneClose :
    goal.parse_pieces-loop-token-smaller-in_ok-push_piece-in-LoneClose
parse_pieces-loop-token-smaller-in_ok-push_piece-in-LoneClose t c =
    token_shorter (at c.loop-token.here) _ (sym c.in-Some.ensures.token)

pub parse_pieces-loop-token-preserved-in_ok-push_piece-in-LoneClose :
    goal.parse_pieces-loop-token-preserved-in_ok-push_piece-in-LoneClose
parse_pieces-loop-token-preserved-in_ok-push_piece-in-LoneClose t c =
    text_reads _ _ _ c.loop-token.invariant _ _ _ _ LoneClose (sym c.in-Some.ensures.token)
    (rw c.in-LoneClose.is refl) c.in_ok-push_piece-in-LoneClose.ensures
    c.bare_piece-piece-in-LoneClose.ensures.node

pub parse_pieces-loop-token-smaller : goal.parse_pieces-loop-token-smaller
parse_pieces-loop-token-smaller t c =
    scan_shorter (at c.loop-token.here) _ (argument, at c.in-Some.rest)
    (rw c.in-Argument.is at (sym c.in-Some.ensures.token)) c.in_ok-here-in-Argument.ensures.rest

pub parse_pieces-loop-token-preserved : goal.parse_pieces-loop-token-preserved
parse_pieces-loop-token-preserved t c =
    let here = at c.loop-token.here in
    let token = rw c.in-Argument.is at (sym c.in-Some.ensures.token) in
    reads_on _ here _ c.loop-token.invariant _ argument _ _ _ token
    (after_front here _ (takes_token here _ token).takes)
    c.in_ok-here-in-Argument.ensures.pushed c.in_ok-here-in-Argument.ensures.rest

pub parse_pieces-returns : goal.parse_pieces-returns
parse_pieces-returns t c =
    record { stand = all_read _ _ _ c.loop-token.invariant (sym c.in_default.ensures.token) }

pub push_argument_piece-returns-then-named-here-clause-rest : goal.push_argument_piece-returns-then-named-here-clause-rest
push_argument_piece-returns-then-named-here-clause-rest t c =
    let named = c.take_name-named in
    name_rest c.args.place _ named.result _ named.ensures.read c.in-Some.ensures c.requires.start
    named.ensures.end_place

pub push_argument_piece-returns-then-named-here-clause-pushed : goal.push_argument_piece-returns-then-named-here-clause-pushed
push_argument_piece-returns-then-named-here-clause-pushed t c =
    let named = c.take_name-named in
    let closes = name_closes named.result _ c.in-Some.ensures in
    name_pushed c.args.place _ named.result _ named.ensures.read c.in-Some.ensures c.requires.start
    named.ensures.end_place _ _ c.bare_piece-piece.result c.in_ok-push_piece-in-Some.ensures (λ bs.
    grind (arith, c.bare_piece-piece.ensures.node bs, closes))

pub push_argument_piece-returns-in_ok-push_piece-in-Some-2-clause-rest :
    goal.push_argument_piece-returns-in_ok-push_piece-in-Some-2-clause-rest
push_argument_piece-returns-in_ok-push_piece-in-Some-2-clause-rest t c =
    let named = c.take_name-named in
    name_rest c.args.place _ named.result _ named.ensures.read c.in-Some.ensures c.requires.start
    named.ensures.end_place

pub push_argument_piece-returns-in_ok-push_piece-in-Some-2-clause-pushed :
    goal.push_argument_piece-returns-in_ok-push_piece-in-Some-2-clause-pushed
push_argument_piece-returns-in_ok-push_piece-in-Some-2-clause-pushed t c =
    let named = c.take_name-named in
    name_pushed c.args.place _ named.result _ named.ensures.read c.in-Some.ensures c.requires.start
    named.ensures.end_place _ _ _ c.in_ok-push_piece-in-Some-2.ensures
    c.in_ok-piece-in-Some.ensures.node

pub push_asked-push_taken-requires : goal.push_asked-push_taken-requires
push_asked-push_taken-requires t c =
    let read = asked_ok _ c.args.opening.named c.requires.named _ _ c.in-Ok.ensures in
    (search rules, (c.requires.start, (read, c.requires.name_end)))

pub push_asked-returns-in-Err-clause-rest : goal.push_asked-returns-in-Err-clause-rest
push_asked-returns-in-Err-clause-rest t c =
    let read = asked_broken _ c.args.opening.named c.requires.named _ c.in-Err.ensures in
    grind (arith, broken_is, read)

pub push_asked-returns-in-Err-clause-pushed : goal.push_asked-returns-in-Err-clause-pushed
push_asked-returns-in-Err-clause-pushed t c =
    let read = asked_broken _ c.args.opening.named c.requires.named _ c.in-Err.ensures in
    grind (arith, broken_is, read)

pub push_list-parse_group-requires : goal.push_list-parse_group-requires
push_list-parse_group-requires t c =
    grind (arith, groups_within)

pub push_list-parse_group-requires-2 : goal.push_list-parse_group-requires-2
push_list-parse_group-requires-2 t c =
    grind (arith, groups_within)

pub push_list-returns-clause-rest : goal.push_list-returns-clause-rest
push_list-returns-clause-rest t c =
    rest_is c.args.opening.place _ c.args.opening.named c.args.asked.now c.args.end c.requires.start
    c.requires.read c.requires.name_end _ c.ending-kind.ensures.rest

pub push_list-returns-clause-pushed : goal.push_list-returns-clause-pushed
push_list-returns-clause-pushed t c =
    list_pushed c.args.opening.place _ c.args.opening.named c.args.asked.now c.args.end
    c.requires.start
    c.requires.read c.requires.name_end _ _ _ _ _ c.ending-kind.ensures.rest
    c.ending-kind.ensures.kind c.in_ok-push_piece.ensures c.in_ok-item.item c.in_ok-join.join
    c.requires.asked c.in_ok-item.ensures.stands c.in_ok-join.ensures.stands
    c.in_ok-piece.ensures.node
