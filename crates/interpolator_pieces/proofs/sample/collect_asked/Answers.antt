use Rattle.std.proofs.Common.{arith, rules, ◌≡◌, ◌∙◌, sym, None}
use Rattle.interpolator_syntax.specs.SpecTexts.{plain_spec}
use Rattle.interpolator_pieces.proofs.RunLemmas.{name_fits, value_fits, list_fits, name_held}
use Rattle.interpolator_pieces.proofs.RunLemmas.{list_held}
use Rattle.interpolator_pieces.proofs.WholePieceLemmas.{fits_text}
use Rattle.interpolator_pieces.proofs.sample.collect_asked.Goals as goal

pub name_of-start-requires : goal.name_of-start-requires
name_of-start-requires g c = grind (arith, name_fits, fits_text)

pub name_of-start-requires-in-Value : goal.name_of-start-requires-in-Value
name_of-start-requires-in-Value g c = grind (arith, value_fits, fits_text)

pub name_of-start-requires-in-List : goal.name_of-start-requires-in-List
name_of-start-requires-in-List g c = grind (arith, list_fits, fits_text)

pub returns-in-Plain : goal.returns-in-Plain
returns-in-Plain g c =
    let plain : c.default.result ≡ plain_spec = search rules in
    let held = name_held c.args.text.now c.args.piece.now _ _ c.name_of-start.ensures.start
    c.name_of-start.ensures.name (sym c.form_of.ensures ∙ c.in-Plain.is) in
    record { collects = rw held (rw (plain, c.spec_end_of-end.ensures) at c.collect_value.ensures.collects) }

pub returns-in-List : goal.returns-in-List
returns-in-List g c =
    let name = c.name_of-start-in-List.ensures in
    let held = list_held c.args.text.now c.args.piece.now _ _ name.start name.name _
    (sym c.form_of.ensures ∙ c.in-List.is) in
    record { collects = rw held (rw c.spec_end_of-end.ensures at (c.collect_list.ensures.collects None plain_spec)) }
