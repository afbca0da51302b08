use Rattle.std.proofs.Common.{◌≡◌, map, take}
use Rattle.interpolator_syntax.specs.Arguments.{argument_of}
use Rattle.interpolator_border.specs.Arguments.{reported_argument}
use Rattle.interpolator_border.proofs.argument.reported_arguments.Given as goal

abbrev pub invariant-loop-argument : goal.invariant-loop-argument
invariant-loop-argument l =
    l.reported.items ≡ map reported_argument (map argument_of (take l.argument-index l.arguments))
