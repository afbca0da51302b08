use Rattle.std.proofs.Common.{arith, refl, rules}
use Rattle.interpolator_render.proofs.WrittenLemmas.{appends_nothing, chars_nonempty, refuses_all}
use Rattle.interpolator_escapes.proofs.escaping.EscapingTextWrite.write_str.Goals as goal

pub returns-then-is_empty : goal.returns-then-is_empty
returns-then-is_empty g c = appends_nothing _ _ (search rules)

pub returns-then-refused : goal.returns-then-refused
returns-then-refused g c =
    refuses_all _ _ _ (chars_nonempty c.args.text.now c.utf8.text (grind arith)) refl refl refl tt
