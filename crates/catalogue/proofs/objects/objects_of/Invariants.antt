use Rattle.std.proofs.Common.{take, string_bytes}
use Rattle.std.specs.List.{AllZip}
use Rattle.catalogue.specs.Objects.{Gives}
use Rattle.catalogue.proofs.objects.objects_of.Given as goal

abbrev pub invariant-loop-word : goal.invariant-loop-word
invariant-loop-word l = AllZip (λ word object. Gives (string_bytes word) object)
    (take l.word-index l.words) l.objects.items
