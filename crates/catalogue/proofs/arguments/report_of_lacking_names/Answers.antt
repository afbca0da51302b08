use Rattle.std.proofs.Common.{map}
use Rattle.interpolator_syntax.specs.Arguments.{argument_of}
use Rattle.catalogue.specs.Translations.{TellsLacking}
use Rattle.catalogue.proofs.ReportLemmas.{each_last, each_next}
use Rattle.catalogue.proofs.arguments.report_of_lacking_names.Goals as goal

pub loop-one-preserved : goal.loop-one-preserved
loop-one-preserved c = each_next argument_of
    (TellsLacking c.args.file.now (map argument_of c.in_ok-found.found.items))
    c.args.wanted.now c.loop-one.one-index c.one-item.result _ _ _
    c.loop-one-test.true c.one-item.is c.loop-one.invariant
    (rw c.as_slice.ensures.value at c.in_ok-more.ensures.reported)
    (rw c.as_str.ensures.value at c.in_ok-push_str.ensures.bytes)

pub returns-clause-reported : goal.returns-clause-reported
returns-clause-reported c =
    let reported = each_last argument_of
    (TellsLacking c.args.file.now (map argument_of c.in_ok-found.found.items)) c.args.wanted.now
    c.loop-one.one-index _ c.loop-one-test.false c.loop-one.invariant in
    rw (c.in_ok-found.ensures.arguments, c.in_ok-template.ensures.format) at reported
