use Rattle.std.proofs.Common.{◌≡◌, ◌+◌, ℕ, map}
use Rattle.plurals.specs.Tokens.{as_spot, words_from, words_of}
use Rattle.plurals.proofs.TokenLemmas.{with_front}
use Rattle.plurals.proofs.token.tokens_of.Given as goal

abbrev pub invariant-loop-taken : goal.invariant-loop-taken
invariant-loop-taken l = (left : ℕ) → left + l._taken ≡ 1000
    → with_front (map as_spot l.tokens.items) (words_from left l.rest.end l.rest.text.now)
    ≡ words_of l.rule
