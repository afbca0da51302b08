use Rattle.std.proofs.{Common.arith, lemmas.Result.err_from_is_err_and}
use Rattle.interpolator_pieces.proofs.RunLemmas.{closed_done, closed_fault, name_fits, name_held}
use Rattle.interpolator_pieces.proofs.RunLemmas.{text_fits, text_held}
use Rattle.interpolator_pieces.proofs.StoredLemmas.{node_of_out, detail_bare}
use Rattle.interpolator_pieces.proofs.WholePieceLemmas.{fits_text}
use Rattle.interpolator_pieces.proofs.stored_source.run_bare.Goals as goal

pub name_of-start-requires : goal.name_of-start-requires
name_of-start-requires g c = grind (arith, name_fits, detail_bare, fits_text)

pub text_of-requires : goal.text_of-requires
text_of-requires g c = grind (arith, text_fits, detail_bare, fits_text)

pub write_run-requires : goal.write_run-requires
write_run-requires g c = grind (arith, detail_bare)

pub returns-in_err-write_plain_value-in-Closed-clause-outcome : goal.returns-in_err-write_plain_value-in-Closed-clause-outcome
returns-in_err-write_plain_value-in-Closed-clause-outcome g c =
    grind (arith, node_of_out, name_held, detail_bare, closed_fault, err_from_is_err_and)

pub returns-in_ok-write_plain_value-in-Closed-clause-outcome : goal.returns-in_ok-write_plain_value-in-Closed-clause-outcome
returns-in_ok-write_plain_value-in-Closed-clause-outcome g c =
    grind (arith, node_of_out, name_held, detail_bare, closed_done)

pub returns-in_ok-write_plain_value-in-Closed-clause-list : goal.returns-in_ok-write_plain_value-in-Closed-clause-list
returns-in_ok-write_plain_value-in-Closed-clause-list g c = grind (arith, detail_bare)

pub returns-in_err-write_run-in_default-clause-outcome : goal.returns-in_err-write_run-in_default-clause-outcome
returns-in_err-write_run-in_default-clause-outcome g c =
    grind (arith, node_of_out, text_held, detail_bare, err_from_is_err_and)

pub returns-in_ok-write_run-in_default-clause-outcome : goal.returns-in_ok-write_run-in_default-clause-outcome
returns-in_ok-write_run-in_default-clause-outcome g c =
    grind (arith, node_of_out, text_held, detail_bare)

pub returns-in_ok-write_run-in_default-clause-list : goal.returns-in_ok-write_run-in_default-clause-list
returns-in_ok-write_run-in_default-clause-list g c = grind (arith, detail_bare)
