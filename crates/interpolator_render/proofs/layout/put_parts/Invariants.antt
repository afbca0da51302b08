use Rattle.std.proofs.Common.{◌≡◌, ◌-◌, ◌^◌, min, take}
use Rattle.interpolator_render.specs.{Writers.Appends, Writers.byte_count, Layout.text_of_parts}
use Rattle.interpolator_render.proofs.layout.put_parts.Given as goal

abbrev pub invariant-loop-part : goal.invariant-loop-part
invariant-loop-part g l = Appends (g.W.TextWrite.written l.initial.out)
    (text_of_parts (take l.part-index l.parts)) (g.W.TextWrite.written l.out)
    × (l.done ≡ min (byte_count (text_of_parts (take l.part-index l.parts))) (2 ^ 64 - 1))
