use Rattle.std.proofs.Common.{◌≡◌, rules, None}
use Rattle.interpolator_pieces.specs.declared.piece.Piece.TheViews.{out-Piece}
use Rattle.interpolator_pieces.proofs.WholePieceLemmas.{in_item}
use Rattle.interpolator_prepared.proofs.lists.item_pieces.Goals as goal

pub returns-in_default : goal.returns-in_default
returns-in_default c =
    let none : (out-Piece c.args.piece.now).item ≡ None = search rules in
    record { items = rw (none, ← c.spec_end_of.ensures) (c.plain_item.ensures.items c.args.text.now) }

pub around_value-requires : goal.around_value-requires
around_value-requires c =
    record {
      whole = (in_item c.args.text.now c.args.piece.now c.in-Some.pieces c.deref.result.now
          c.deref.ensures.value c.requires.whole c.in-Some.is).whole;
    }
