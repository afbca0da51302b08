use Rattle.std.proofs.Common.{length, ◌++◌, chars}
use denote.{Text.Utf8, Shadow.shadow}
use Rattle.interpolator_escapes.specs.{Escapes.escaped, Rooms.HasPlace}
use Rattle.interpolator_escapes.proofs.RoomLemmas.{LaysOn}
use Rattle.interpolator_escapes.proofs.escaped.put_steps.Given as goal

abbrev pub invariant-loop-rest : goal.invariant-loop-rest
invariant-loop-rest g l =
    shadow (Utf8 l.rest) × HasPlace l.room 22
    × LaysOn l.escape (l.initial.room ++ escaped l.escape (chars l.text)) l.room l.rest
    (g.W.TextWrite.written l.initial.out) (g.W.TextWrite.written l.out)

abbrev pub decreases-loop-rest : goal.decreases-loop-rest
decreases-loop-rest g l = length l.rest
