use Rattle.std.proofs.Common.{◌++◌}
use Rattle.std.proofs.lemmas.List.{drop_all}
use Rattle.interpolator_prepared.specs.StoredSteps.{texts_placed}
use Rattle.interpolator_prepared.proofs.JoinedLemmas.{joins_all, joins_next, joins_none}
use Rattle.interpolator_prepared.proofs.joined.add_texts.Goals as goal

pub loop-piece-init : goal.loop-piece-init
loop-piece-init c =
    λ placed is. joins_none c.args.text.now c.args.pieces.now c.args.joined.now placed is

pub loop-piece-preserved : goal.loop-piece-preserved
loop-piece-preserved c =
    λ placed is. joins_next c.args.text.now (placed ++ texts_placed c.args.text.now c.args.pieces.now)
    c.args.pieces.now c.loop-piece.piece-index c.piece-item.result c.loop-piece.joined
    c.add_part.new.joined c.requires.fit c.loop-piece-test.true c.piece-item.is
    (c.loop-piece.invariant placed is)
    (rw (c.part_of-from.ensures.from, c.part_of-from.ensures.to) at c.in_ok-add_part.ensures.added)

pub returns : goal.returns
returns c =
    record {
      added = λ placed is. joins_all c.args.text.now _ _
          (rw (drop_all c.loop-piece.piece-index c.args.pieces.now c.loop-piece-test.false)
          at c.loop-piece.invariant placed is);
    }
