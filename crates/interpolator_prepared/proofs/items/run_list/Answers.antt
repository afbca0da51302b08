use Rattle.std.proofs.{Common.map, lemmas.Result.err_from_is_err_and}
use Rattle.std.specs.Str.{chars}
use Rattle.interpolator_eval.specs.Slots.{slots_of}
use Rattle.interpolator_prepared.proofs.ItemLemmas.{compiled_fits, list_refused, list_written}
use Rattle.interpolator_prepared.proofs.items.run_list.Goals as goal

pub cut-name-requires : goal.cut-name-requires
cut-name-requires g c =
    record { fits = (compiled_fits c.args.text.now c.args.list.now c.requires.fits).name }

pub returns-in_err-items : goal.returns-in_err-items
returns-in_err-items g c =
    let err = err_from_is_err_and c.from_residual.result c.from_residual.ensures.1 in
    let list = c.args.list.now in
    let fits = (compiled_fits c.args.text.now list c.requires.fits).fits in
    rw (err.1, err.2) (record {
      outcome = λ value_at. list_refused _ _ value_at c.args.text.now list
          (chars c.cut-name.result.now) fits c.cut-name.ensures.text _ _
          _ c.outermost-environment.ensures c.in_err-items.ensures.chosen;
    })

pub returns-in_err-put_list : goal.returns-in_err-put_list
returns-in_err-put_list g c =
    let residual = c.from_residual-in_err-put_list in
    let err = err_from_is_err_and residual.result residual.ensures.1 in
    let list = c.args.list.now in
    let fits = (compiled_fits c.args.text.now list c.requires.fits).fits in
    rw (err.1, err.2) (record {
      outcome = λ value_at. list_written _ _ value_at c.args.text.now list
          (chars c.cut-name.result.now) fits c.cut-name.ensures.text
          (map slots_of c.in_ok-items.items.now) _ _ _ _ c.outermost-environment.ensures
          c.in_ok-items.ensures.chosen c.in_err-put_list.ensures.outcome;
    })

pub returns : goal.returns
returns g c =
    let list = c.args.list.now in
    let fits = (compiled_fits c.args.text.now list c.requires.fits).fits in
    record {
      outcome = λ value_at. list_written _ _ value_at c.args.text.now list
          (chars c.cut-name.result.now) fits c.cut-name.ensures.text
          (map slots_of c.in_ok-items.items.now) _ _ _ _ c.outermost-environment.ensures
          c.in_ok-items.ensures.chosen c.in_ok-put_list.ensures.outcome;
    }
