use Rattle.std.proofs.Common.{take, string_bytes}
use Rattle.std.specs.List.{AllZip}
use Rattle.ifmt.specs.Binding.{HasObject}
use Rattle.ifmt.proofs.binding.objects_of.Given as goal

abbrev pub invariant-loop-text : goal.invariant-loop-text
invariant-loop-text l =
    AllZip (λ word object. HasObject (string_bytes word) object) (take l.text-index l.words)
    l.objects.items
