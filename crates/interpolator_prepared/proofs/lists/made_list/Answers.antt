use Rattle.interpolator_pieces.proofs.{RunLemmas.list_fits, WholePieceLemmas.fits_text}
use Rattle.interpolator_prepared.proofs.{CompileLemmas.part_fits, SimpleListLemmas.list_made}
use Rattle.interpolator_prepared.proofs.lists.made_list.Goals as goal

pub name_of-start-requires : goal.name_of-start-requires
name_of-start-requires c =
    record {
      fits = list_fits c.args.text.now c.args.piece.now c.args.range c.requires.list
          (fits_text c.args.text.now c.args.piece.now c.requires.whole).held;
    }

pub part_of-from-requires : goal.part_of-from-requires
part_of-from-requires c =
    record {
      fits = part_fits _ _ (list_fits c.args.text.now c.args.piece.now c.args.range c.requires.list
          (fits_text c.args.text.now c.args.piece.now c.requires.whole).held);
    }

pub returns : goal.returns
returns c =
    rw (c.part_of-from.ensures.from, c.part_of-from.ensures.to, c.spec_of.ensures, c.spec_end_of.ensures) (record {
      list = list_made c.args.text.now c.args.piece.now c.args.range c.args.pieces
          c.requires.whole c.requires.list c.requires.simple c.in_ok-before.before
          c.in_ok-between.between c.in_ok-after.after
          c.in_ok-before.ensures.joined c.in_ok-after.ensures.joined c.in_ok-between.ensures.joined
          c.name_of-start.result.0 c.name_of-start.ensures.start;
    })
