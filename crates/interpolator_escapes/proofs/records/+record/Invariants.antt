use Rattle.std.proofs.Common.{◌≡◌, drop}
use Rattle.interpolator_syntax.specs.Nodes.{as_forest}
use Rattle.interpolator_pieces.specs.Stored.{nodes_of}
use Rattle.interpolator_escapes.specs.{CodeRecords.spot_of, RecordFormats.after_forest}
use Rattle.interpolator_escapes.proofs.records.+record.Given as goal

-- the pieces that are left, from here, lead where all do
abbrev pub invariant-after_pieces-loop-piece : goal.invariant-after_pieces-loop-piece
invariant-after_pieces-loop-piece l =
    after_forest (spot_of l.fn.start) (as_forest (nodes_of l.text l.pieces))
    ≡ after_forest (spot_of l.spot) (as_forest (nodes_of l.text (drop l.piece-index l.pieces)))
