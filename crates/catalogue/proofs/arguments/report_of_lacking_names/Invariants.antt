use Rattle.std.proofs.Common.{map, string_bytes, take}
use Rattle.interpolator_syntax.specs.Arguments.{argument_of}
use Rattle.catalogue.specs.{Translations.TellsLacking, Reported.Each}
use Rattle.catalogue.proofs.arguments.report_of_lacking_names.Given as goal

abbrev pub invariant-loop-one : goal.invariant-loop-one
invariant-loop-one l = Each
    (TellsLacking l.file (map argument_of l.found.items))
    (map argument_of (take l.one-index l.wanted)) (string_bytes l.reported)
