use Rattle.std.proofs.Common.{map, string_bytes, take}
use Rattle.interpolator.specs.Faults.{answer_of}
use Rattle.catalogue.specs.{Translations.TellsFault, Reported.Each}
use Rattle.catalogue.proofs.translations.report_of_string_faults.Given as goal

abbrev pub invariant-loop-error : goal.invariant-loop-error
invariant-loop-error l = Each
    (TellsFault l.file)
    (map answer_of (take l.error-index l.errors)) (string_bytes l.reported)
