use Rattle.interpolator.specs.Faults.{answer_of}
use Rattle.catalogue.specs.Translations.{TellsFault}
use Rattle.catalogue.proofs.ReportLemmas.{each_last, each_next}
use Rattle.catalogue.proofs.translations.report_of_string_faults.Goals as goal

pub loop-error-preserved : goal.loop-error-preserved
loop-error-preserved c = each_next answer_of
    (TellsFault c.args.file.now)
    c.args.errors.now c.loop-error.error-index c.error-item.result _ _ _
    c.loop-error-test.true c.error-item.is c.loop-error.invariant
    c.in_ok-more.ensures.reported (rw c.as_str.ensures.value at c.in_ok-push_str.ensures.bytes)

pub returns-clause-reported : goal.returns-clause-reported
returns-clause-reported c = each_last answer_of
    (TellsFault c.args.file.now)
    c.args.errors.now c.loop-error.error-index _ c.loop-error-test.false c.loop-error.invariant
