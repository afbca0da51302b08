use Rattle.std.proofs.Common.{◌∙◌, ap}
use Rattle.interpolator.specs.Prepared.Rows.{name_bytes, pair_names}
use Rattle.interpolator.proofs.NamedRowLemmas.{values_in_order}
use Rattle.interpolator.proofs.named_row.ValuesPreparedRow.is_in_order.Goals as goal

pub returns : goal.returns
returns c =
    record {
      in_order = λ h. values_in_order c.args.self.now (name_bytes c.args.names.now)
          (c.have_names.ensures h ∙ ap pair_names c.named.ensures);
    }
