use Rattle.std.proofs.Common.{map}
use Rattle.interpolator_syntax.specs.Arguments.{argument_of}
use Rattle.catalogue.specs.Translations.{TellsOther}
use Rattle.catalogue.proofs.ReportLemmas.{each_last, each_next}
use Rattle.catalogue.proofs.arguments.report_of_others.Goals as goal

pub loop-one-preserved : goal.loop-one-preserved
loop-one-preserved c = each_next argument_of
    (TellsOther c.args.file.now (map argument_of c.args.id.now) (map argument_of c.args.plural.now))
    c.args.found.now c.loop-one.one-index c.one-item.result _ _ _
    c.loop-one-test.true c.one-item.is c.loop-one.invariant
    c.in_ok-more.ensures.reported (rw c.as_str.ensures.value at c.in_ok-push_str.ensures.bytes)

pub returns-clause-reported : goal.returns-clause-reported
returns-clause-reported c = each_last argument_of
    (TellsOther c.args.file.now (map argument_of c.args.id.now) (map argument_of c.args.plural.now))
    c.args.found.now c.loop-one.one-index _ c.loop-one-test.false c.loop-one.invariant
