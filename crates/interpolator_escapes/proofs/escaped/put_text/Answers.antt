use Rattle.std.proofs.Common.{rules}
use Rattle.interpolator_render.proofs.WrittenLemmas.{appends_nothing}
use Rattle.interpolator_escapes.proofs.escaped.put_text.Goals as goal

pub returns-then-is_empty : goal.returns-then-is_empty
returns-then-is_empty g c = appends_nothing _ _ (search rules)
