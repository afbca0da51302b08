use Rattle.std.proofs.Common.{◌≡◌, ◌-◌, chars}
use Rattle.interpolator_syntax.specs.Groups.{after_hashes}
use Rattle.interpolator_syntax.proofs.bracket.skip_hashes.Given as goal

-- how many signs are left to skip
abbrev pub invariant-loop : goal.invariant-loop
invariant-loop l =
    after_hashes (l.count - l.counter) l.here.place (chars l.here.rest.now)
    ≡ after_hashes l.count l.start.place (chars l.start.rest.now)
