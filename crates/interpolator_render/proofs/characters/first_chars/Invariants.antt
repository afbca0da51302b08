use Rattle.std.specs.Str.Iter.{chars_rest}
use Rattle.interpolator_render.proofs.CharacterLemmas.{Walked}
use Rattle.interpolator_render.proofs.characters.first_chars.Given as goal

abbrev pub invariant-walk : goal.invariant-walk
invariant-walk l = Walked l.text (chars_rest l.rest) l.done
