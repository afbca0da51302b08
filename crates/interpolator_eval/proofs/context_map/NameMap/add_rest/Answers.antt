use Rattle.std.proofs.Common.{refl}
use Rattle.interpolator_eval.specs.declared.context_map.NameMap.{NameMap}
use Rattle.interpolator_eval.proofs.LoanLemmas.{rest_in}
use Rattle.interpolator_eval.proofs.context_map.NameMap.add_rest.Goals as goal

pub returns-clause-ok : goal.returns-clause-ok
returns-clause-ok g c =
    let map = c.args.self.now in
    let new : NameMap g.row.T.Denot =
    record {
      few = map.few;
      guesses = map.guesses;
      rest = c.insert.new.self;
      alloc = map.alloc;
      of = map.of;
    } in
    rest_in g.T.Default.is_default map new c.args.name c.default.result c.in_ok-insert.field-0
    c.default.ensures c.requires.absent c.in_ok-insert.ensures.updates
    c.in_ok-insert.ensures.old c.in_ok-insert.ensures.len refl refl
