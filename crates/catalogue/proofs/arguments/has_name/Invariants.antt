use Rattle.std.proofs.Common.{◌≡◌, drop, map}
use Rattle.std.specs.Str.{chars}
use Rattle.interpolator_syntax.specs.Arguments.{argument_of}
use Rattle.catalogue.specs.Translations.{has_name}
use Rattle.catalogue.proofs.arguments.has_name.Given as goal

abbrev pub invariant-loop-one : goal.invariant-loop-one
invariant-loop-one l = has_name (map argument_of (drop l.one-index l.arguments)) (chars l.name)
    ≡ has_name (map argument_of l.arguments) (chars l.name)
