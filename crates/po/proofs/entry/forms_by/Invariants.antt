use Rattle.std.proofs.Common.{◌≡◌, ◌≤◌, drop, length}
use Rattle.po.specs.{Entries.forms_by, Entries.lists_of, Entries.with_forms, Tokens.texts_of}
use Rattle.po.proofs.entry.forms_by.Given as goal

abbrev pub invariant-loop-key : goal.invariant-loop-key
invariant-loop-key l = record {
  within : length l.rest ≤ length l.tokens;
  read : with_forms (lists_of l.forms.items)
      (forms_by l.end (texts_of (drop l.key-index l.keys)) l.rest)
      ≡ forms_by l.end (texts_of l.keys) l.tokens;
}
