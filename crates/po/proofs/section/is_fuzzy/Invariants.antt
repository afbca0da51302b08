use Rattle.std.proofs.Common.{◌≡◌, drop, false}
use Rattle.po.specs.Sections.{is_fuzzy}
use Rattle.po.proofs.section.is_fuzzy.Given as goal

abbrev pub invariant-loop-one : goal.invariant-loop-one
invariant-loop-one l = is_fuzzy l.fuzzy (drop l.one-index l.notes) ≡ is_fuzzy false l.notes
