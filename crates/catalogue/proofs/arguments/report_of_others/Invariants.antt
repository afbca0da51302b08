use Rattle.std.proofs.Common.{map, string_bytes, take}
use Rattle.interpolator_syntax.specs.Arguments.{argument_of}
use Rattle.catalogue.specs.{Translations.TellsOther, Reported.Each}
use Rattle.catalogue.proofs.arguments.report_of_others.Given as goal

abbrev pub invariant-loop-one : goal.invariant-loop-one
invariant-loop-one l = Each
    (TellsOther l.file (map argument_of l.id) (map argument_of l.plural))
    (map argument_of (take l.one-index l.found)) (string_bytes l.reported)
