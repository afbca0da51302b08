use Rattle.std.proofs.Common.{take}
use Rattle.std.specs.List.{AllZip}
use Rattle.ifmt.specs.Binding.{Lends}
use Rattle.ifmt.proofs.binding.entries_of.Given as goal

abbrev pub invariant-loop-object : goal.invariant-loop-object
invariant-loop-object l = AllZip Lends (take l.object-index l.objects) l.entries.items
