use Rattle.std.proofs.Common.{map, string_bytes, take}
use Rattle.interpolator_syntax.specs.Arguments.{argument_of}
use Rattle.catalogue.specs.{Translations.TellsText, Reported.Each}
use Rattle.catalogue.proofs.translations.report_of_each.Given as goal

abbrev pub invariant-loop-text : goal.invariant-loop-text
invariant-loop-text l = Each
    (TellsText l.file l.escape (map argument_of l.id) (map argument_of l.plural))
    (map (λ text. text.now) (take l.text-index l.texts)) (string_bytes l.reported)
