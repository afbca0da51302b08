use Rattle.std.proofs.Common.{◌↔◌, drop, map}
use Rattle.interpolator_syntax.specs.Arguments.{argument_of}
use Rattle.catalogue.specs.Translations.{HasSame}
use Rattle.catalogue.proofs.arguments.has_same.Given as goal

abbrev pub invariant-loop-other : goal.invariant-loop-other
invariant-loop-other l =
    HasSame (map argument_of (drop l.other-index l.arguments)) (argument_of l.one)
    ↔ HasSame (map argument_of l.arguments) (argument_of l.one)
