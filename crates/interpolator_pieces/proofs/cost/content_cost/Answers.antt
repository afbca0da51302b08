use Rattle.std.proofs.Common.{arith}
use Rattle.interpolator_pieces.proofs.{CostLemmas.form_reported, RunLemmas.text_fits}
use Rattle.interpolator_pieces.proofs.WholePieceLemmas.{fits_text}
use Rattle.interpolator_pieces.proofs.cost.content_cost.Goals as goal

pub text_of-requires : goal.text_of-requires
text_of-requires c = grind (arith, text_fits, fits_text)

pub returns-in-Plain : goal.returns-in-Plain
returns-in-Plain c =
    let fits = fits_text c.args.text.now c.args.piece.now c.requires.whole in
    grind (arith, form_reported c.args.limits.now c.args.item c.args.join _ _ fits.held)

pub returns-in-Value : goal.returns-in-Value
returns-in-Value c =
    let fits = fits_text c.args.text.now c.args.piece.now c.requires.whole in
    grind (arith, form_reported c.args.limits.now c.args.item c.args.join _ _ fits.held)

pub returns-in-List : goal.returns-in-List
returns-in-List c =
    let fits = fits_text c.args.text.now c.args.piece.now c.requires.whole in
    grind (arith, form_reported c.args.limits.now c.args.item c.args.join _ _ fits.held)
