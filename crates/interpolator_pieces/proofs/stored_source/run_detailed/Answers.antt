use Rattle.std.proofs.{Common.arith, lemmas.Result.err_from_is_err_and}
use Rattle.interpolator_eval.proofs.MeaningLemmas.SinkLemmas.{ended, nothing_done}
use Rattle.interpolator_pieces.proofs.RunLemmas.{broken_held, closed_done, closed_fault, name_fits}
use Rattle.interpolator_pieces.proofs.RunLemmas.{name_held, text_fits, text_held, value_fits}
use Rattle.interpolator_pieces.proofs.RunLemmas.{value_held}
use Rattle.interpolator_pieces.proofs.{StoredLemmas.node_of_out, WholePieceLemmas.fits_text}
use Rattle.interpolator_pieces.proofs.stored_source.run_detailed.Goals as goal

pub text_of-requires : goal.text_of-requires
text_of-requires g c = grind (arith, text_fits, fits_text)

pub write_run-requires : goal.write_run-requires
write_run-requires g c = grind arith

pub returns-in_err-write_run-in-Text-clause-outcome : goal.returns-in_err-write_run-in-Text-clause-outcome
returns-in_err-write_run-in-Text-clause-outcome g c =
    grind (arith, node_of_out, text_held, err_from_is_err_and)

pub returns-in_ok-write_run-in-Text-clause-outcome : goal.returns-in_ok-write_run-in-Text-clause-outcome
returns-in_ok-write_run-in-Text-clause-outcome g c = grind (arith, node_of_out, text_held)

pub name_of-start-requires : goal.name_of-start-requires
name_of-start-requires g c = grind (arith, name_fits, fits_text)

pub name_of-start-requires-in-Value : goal.name_of-start-requires-in-Value
name_of-start-requires-in-Value g c = grind (arith, value_fits, fits_text)

pub returns-in_err-write_plain_value-in-Plain-clause-outcome : goal.returns-in_err-write_plain_value-in-Plain-clause-outcome
returns-in_err-write_plain_value-in-Plain-clause-outcome g c =
    grind (arith, node_of_out, name_held, closed_fault, err_from_is_err_and)

pub returns-in_ok-write_plain_value-in-Plain-clause-outcome : goal.returns-in_ok-write_plain_value-in-Plain-clause-outcome
returns-in_ok-write_plain_value-in-Plain-clause-outcome g c =
    grind (arith, node_of_out, name_held, closed_done)

pub returns-in_err-write_value-in-Value-clause-outcome : goal.returns-in_err-write_value-in-Value-clause-outcome
returns-in_err-write_value-in-Value-clause-outcome g c =
    let residual = c.from_residual-in_err-write_value-in-Value in
    let err = err_from_is_err_and residual.result residual.ensures.1 in
    let text = c.args.text.now in
    let x = c.args.piece.now in
    let name = c.name_of-start-in-Value.ensures in
    let held = value_held text x _ _ name.start name.name c.in-Value.t (grind arith) in
    rw (err.1, err.2, node_of_out text x, held, c.requires.detail)
    (closed_fault _ _ _ _ _ _ c.in_err-write_value-in-Value.ensures.outcome)

pub returns-in_ok-write_value-in-Value-clause-outcome : goal.returns-in_ok-write_value-in-Value-clause-outcome
returns-in_ok-write_value-in-Value-clause-outcome g c =
    grind (arith, node_of_out, value_held, closed_done)

pub returns-in-List-clause-outcome : goal.returns-in-List-clause-outcome
returns-in-List-clause-outcome g c = grind (arith, node_of_out, fits_text, nothing_done)

pub returns-in-Broken-clause-outcome : goal.returns-in-Broken-clause-outcome
returns-in-Broken-clause-outcome g c = grind (arith, node_of_out, broken_held, ended)
