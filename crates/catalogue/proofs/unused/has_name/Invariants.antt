use Rattle.std.proofs.Common.{◌≡◌, drop}
use Rattle.words.specs.Items.{texts_of}
use Rattle.catalogue.specs.Lacks.{is_one_of}
use Rattle.catalogue.proofs.unused.has_name.Given as goal

abbrev pub invariant-loop-one : goal.invariant-loop-one
invariant-loop-one l = is_one_of (texts_of (drop l.one-index l.names)) l.name
    ≡ is_one_of (texts_of l.names) l.name
