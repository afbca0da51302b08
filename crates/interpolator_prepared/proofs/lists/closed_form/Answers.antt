use Rattle.std.proofs.Common.{◌∙◌, sym}
use Rattle.interpolator_pieces.proofs.RunLemmas.{name_fits, value_fits}
use Rattle.interpolator_pieces.proofs.WholePieceLemmas.{fits_text}
use Rattle.interpolator_prepared.proofs.lists.closed_form.Goals as goal

pub nameless_form-requires-clause-fits : goal.nameless_form-requires-clause-fits
nameless_form-requires-clause-fits c =
    name_fits c.args.text.now c.args.piece.now (sym c.form_of.ensures ∙ c.in-Plain.is)
    (fits_text c.args.text.now c.args.piece.now c.requires.whole).held

pub nameless_form-requires-in-Value-clause-fits : goal.nameless_form-requires-in-Value-clause-fits
nameless_form-requires-in-Value-clause-fits c =
    value_fits c.args.text.now c.args.piece.now _ (sym c.form_of.ensures ∙ c.in-Value.is)
    (fits_text c.args.text.now c.args.piece.now c.requires.whole).held
