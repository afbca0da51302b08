use Rattle.std.proofs.Common.{◌≡◌, ◌≤◌, arith, length, rules, None}
use Rattle.interpolator_pieces.specs.declared.piece.Piece.TheViews.{out-Piece}
use Rattle.interpolator_pieces.proofs.WholePieceLemmas.{in_join}
use Rattle.interpolator_prepared.specs.StoredSteps.{text_count}
use Rattle.interpolator_prepared.proofs.SimpleListLemmas.{join_texts, no_join}
use Rattle.interpolator_prepared.proofs.lists.join_pieces.Goals as goal

pub returns-in_default : goal.returns-in_default
returns-in_default c =
    let none : (out-Piece c.args.piece.now).join ≡ None = search rules in
    record { join = no_join c.args.text.now (out-Piece c.args.piece.now).join none }

pub returns : goal.returns
returns c =
    let xs = c.deref.result.now in
    let group = in_join c.args.text.now c.args.piece.now c.in-Some.pieces xs c.deref.ensures.value
    c.requires.whole c.in-Some.is in
    let all : length xs ≤ text_count xs =
    omega (arith, c.if-text_count-len.false, c.text_count.ensures, c.deref.ensures.len) in
    let joined = join_texts c.args.text.now (out-Piece c.args.piece.now).join c.in-Some.pieces xs
    c.in-Some.is c.deref.ensures.value group.whole all in
    record { join = search rules }
