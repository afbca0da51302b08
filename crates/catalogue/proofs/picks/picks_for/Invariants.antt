use Rattle.std.proofs.Common.{take}
use Rattle.std.specs.List.{AllZip}
use Rattle.words.specs.Declarations.{as_declaration}
use Rattle.catalogue.specs.{Entries.held_by_entry, Picks.HoldsPick}
use Rattle.catalogue.proofs.picks.picks_for.Given as goal

abbrev pub invariant-loop-one : goal.invariant-loop-one
invariant-loop-one l =
    AllZip (λ one entry. HoldsPick l.objects (as_declaration one) (held_by_entry entry))
    (take l.one-index l.declared) l.entries.items
