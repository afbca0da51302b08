use Rattle.std.proofs.Common.{map}
use Rattle.interpolator_syntax.specs.Arguments.{argument_of}
use Rattle.catalogue.specs.Translations.{TellsText}
use Rattle.catalogue.proofs.ReportLemmas.{each_last, each_next}
use Rattle.catalogue.proofs.translations.report_of_each.Goals as goal

pub loop-text-preserved : goal.loop-text-preserved
loop-text-preserved c = each_next (λ text. text.now)
    (TellsText c.args.file.now c.args.escape (map argument_of c.args.id.now)
    (map argument_of c.args.plural.now))
    c.args.texts.now c.loop-text.text-index c.text-item.result _ _ _
    c.loop-text-test.true c.text-item.is c.loop-text.invariant
    c.in_ok-more.ensures.reported (rw c.as_str.ensures.value at c.in_ok-push_str.ensures.bytes)

pub returns-clause-reported : goal.returns-clause-reported
returns-clause-reported c = each_last (λ text. text.now)
    (TellsText c.args.file.now c.args.escape (map argument_of c.args.id.now)
    (map argument_of c.args.plural.now))
    c.args.texts.now c.loop-text.text-index _ c.loop-text-test.false c.loop-text.invariant
