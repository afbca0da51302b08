use Rattle.std.proofs.Common.{◌≡◌, drop}
use Rattle.words.specs.Items.{texts_of}
use Rattle.catalogue.specs.Sought.{has_key}
use Rattle.catalogue.proofs.lines.has_key.Given as goal

abbrev pub invariant-loop-line : goal.invariant-loop-line
invariant-loop-line l =
    has_key l.key (texts_of (drop l.line-index l.lines)) ≡ has_key l.key (texts_of l.lines)
