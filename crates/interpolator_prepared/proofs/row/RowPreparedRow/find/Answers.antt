use Rattle.interpolator_eval.specs.Slots.{slots_of}
use Rattle.interpolator_prepared.proofs.WriteLemmas.{row_found, row_short, row_absent}
use Rattle.interpolator_prepared.proofs.row.RowPreparedRow.find.Goals as goal

pub returns-in-Some-get : goal.returns-in-Some-get
returns-in-Some-get g c =
    record {
      found = row_found slots_of c.args.names.now c.args.self.now.0.now _ c.utf8.name _ _
          c.in-Some.ensures c.in-Some-get.ensures.lookup.3.0 c.in-Some-get.ensures.lookup.1;
    }

pub returns-in-None-get : goal.returns-in-None-get
returns-in-None-get g c =
    record {
      found = row_short slots_of c.args.names.now c.args.self.now.0.now c.args.name.now c.utf8.name
          c.in-Some.position c.in-Some.ensures c.in-None-get.ensures.lookup.3;
    }

pub returns-in-None : goal.returns-in-None
returns-in-None g c =
    record {
      found = row_absent slots_of c.args.names.now c.args.self.now.0.now c.args.name.now c.utf8.name
          c.in-None.ensures;
    }
