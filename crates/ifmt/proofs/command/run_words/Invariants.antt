use Rattle.std.proofs.Common.{drop, List, ℕ, Option}
use Rattle.std.specs.List.{FoldsTo}
use Rattle.interpolator.specs.{NameMaps.stored_slots, Slots.Slots, declared.View.View}
use Rattle.ifmt.proofs.BindLemmas.{AreFilled, IsFilled}
use Rattle.ifmt.proofs.command.run_words.Given as goal

abbrev pub invariant-loop-entry : goal.invariant-loop-entry
invariant-loop-entry g l = (finds : List ℕ → Option (Slots View))
    → FoldsTo IsFilled (stored_slots l.context) (drop l.entry-index l.entry-items) finds
    → AreFilled l.entry-items finds
