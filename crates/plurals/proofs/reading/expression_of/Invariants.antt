use Rattle.std.proofs.Common.{◌≡◌, [], drop, map}
use Rattle.plurals.specs.{Readings.state_of, Readings.steps, Readings.wants, Tokens.as_spot}
use Rattle.plurals.proofs.reading.expression_of.Given as goal

abbrev pub invariant-loop-token : goal.invariant-loop-token
invariant-loop-token l = steps (state_of l.stack.items l.last) (map as_spot (drop l.token-index l.tokens))
    ≡ steps (wants []) (map as_spot l.tokens)
