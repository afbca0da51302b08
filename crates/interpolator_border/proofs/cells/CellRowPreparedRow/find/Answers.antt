use Rattle.std.proofs.Common.{◌∙◌, [], ap, Some}
use Rattle.interpolator_prepared.proofs.WriteLemmas.{row_found, row_short, row_absent}
use Rattle.interpolator_border.specs.Fields.{field_slots}
use Rattle.interpolator_border.proofs.cells.CellRowPreparedRow.find.Goals as goal

pub returns-in-Some-get : goal.returns-in-Some-get
returns-in-Some-get c =
    record {
      found = ap Some c.cell_slots.ensures ∙ row_found (field_slots []) c.args.names.now
          c.args.self.now.0.now c.args.name.now c.utf8.name c.in-Some.position
          c.in-Some-get.cell.now c.in-Some.ensures c.in-Some-get.ensures.lookup.3.0
          c.in-Some-get.ensures.lookup.1;
    }

pub returns-in-None-get : goal.returns-in-None-get
returns-in-None-get c =
    record {
      found = row_short (field_slots []) c.args.names.now c.args.self.now.0.now c.args.name.now
          c.utf8.name c.in-Some.position c.in-Some.ensures c.in-None-get.ensures.lookup.3;
    }

pub returns-in-None : goal.returns-in-None
returns-in-None c =
    record {
      found = row_absent (field_slots []) c.args.names.now c.args.self.now.0.now c.args.name.now
          c.utf8.name c.in-None.ensures;
    }
