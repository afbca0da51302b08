-- Calls of the writer in between are calls of the formatter.
use Rattle.std.proofs.Common.{rules}
use Rattle.interpolator_syntax.proofs.UnstyledLemmas.{displays_through, displays_plainly}
use Rattle.interpolator_syntax.proofs.unstyled.write_unstyled.Goals as goal

pub returns : goal.returns
returns g c =
    let styled = displays_through g.W.Write.write_str_gives (λ unstyled. unstyled.f.ghost_name)
    (λ unstyled. unstyled.f.now) _ _ _ _ _ (λ same. search rules)
    c.write-result.ensures.writes in
    record { writes = displays_plainly _ _ _ _ _ styled; styled = styled }
