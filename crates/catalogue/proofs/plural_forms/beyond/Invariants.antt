use Rattle.plurals.specs.Trees.{tree_of}
use Rattle.catalogue.specs.PluralForms.{AreBelow}
use Rattle.catalogue.proofs.plural_forms.beyond.Given as goal

abbrev pub invariant-loop-index : goal.invariant-loop-index
invariant-loop-index l = AreBelow l.count l.index (tree_of l.read)
