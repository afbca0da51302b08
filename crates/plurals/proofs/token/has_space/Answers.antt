use Rattle.std.proofs.Common.{rules, tests}
use Rattle.std.proofs.lemmas.{Iterator.YieldsList-from_chars, Iterator.Search.any_from_yields_List}
use Rattle.std.specs.Char.{is_whitespace}
use Rattle.plurals.proofs.token.has_space.Goals as goal

pub returns : goal.returns
returns c = any_from_yields_List is_whitespace _ _ _ c.any.ensures.ran
    (YieldsList-from_chars c.args.text.now c.utf8.text c.chars.ensures.rest)
    (λ x b q k. search (rules, tests))
