use Rattle.std.proofs.Common.{◌≡◌, drop}
use Rattle.words.specs.Items.{texts_of}
use Rattle.catalogue.specs.Forms.{rule_of}
use Rattle.catalogue.proofs.forms.rule_of.Given as goal

abbrev pub invariant-loop-line : goal.invariant-loop-line
invariant-loop-line l =
    rule_of (texts_of (drop l.line-index l.lines)) ≡ rule_of (texts_of l.lines)
