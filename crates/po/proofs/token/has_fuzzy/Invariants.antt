use Rattle.std.proofs.Common.{◌≡◌, ◌==◌, drop}
use Rattle.std.specs.List.{slice_split}
use Rattle.po.specs.Tokens.{has_fuzzy, texts_of}
use Rattle.po.proofs.token.has_fuzzy.Given as goal

abbrev pub invariant-loop-flag : goal.invariant-loop-flag
invariant-loop-flag l = has_fuzzy (texts_of (drop l.flag-index l.flag-items))
    ≡ has_fuzzy (slice_split (λ b. b == 44) l.flags)
