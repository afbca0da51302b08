use Rattle.std.proofs.Common.{◌∙◌, ap, Some}
use Rattle.interpolator_eval.specs.Slots.{empty_slots, with_integer}
use Rattle.interpolator_prepared.proofs.WriteLemmas.{row_found, row_short, row_absent}
use Rattle.interpolator_prepared.proofs.row.CellsPreparedRow.find.Goals as goal

pub returns-in-Some-get : goal.returns-in-Some-get
returns-in-Some-get g c =
    record {
      found = ap Some c.integer.ensures ∙ row_found (λ value. with_integer empty_slots value) c.args.names.now c.args.self.now.0.now c.args.name.now c.utf8.name
          c.in-Some.position c.in-Some-get.value.now c.in-Some.ensures c.in-Some-get.ensures.lookup.3.0
          c.in-Some-get.ensures.lookup.1;
    }

pub returns-in-None-get : goal.returns-in-None-get
returns-in-None-get g c =
    record {
      found = row_short (λ value. with_integer empty_slots value) c.args.names.now c.args.self.now.0.now c.args.name.now c.utf8.name
          c.in-Some.position c.in-Some.ensures c.in-None-get.ensures.lookup.3;
    }

pub returns-in-None : goal.returns-in-None
returns-in-None g c =
    record {
      found = row_absent (λ value. with_integer empty_slots value) c.args.names.now c.args.self.now.0.now c.args.name.now c.utf8.name
          c.in-None.ensures;
    }
