use Rattle.std.proofs.Common.{◌≡◌, drop, map}
use Rattle.po.specs.Entries.{as_entry}
use Rattle.catalogue.specs.PluralForms.{header_of}
use Rattle.catalogue.proofs.plural_forms.header_of.Given as goal

abbrev pub invariant-loop-entry : goal.invariant-loop-entry
invariant-loop-entry l =
    header_of (map as_entry (drop l.entry-index l.entries)) ≡ header_of (map as_entry l.entries)
