use Rattle.std.proofs.Common.{◌≡◌, ◌+◌, ◌++◌, drop, map}
use Rattle.catalogue.specs.Files.{as_line, numbered}
use Rattle.words.specs.Items.{texts_of}
use Rattle.catalogue.proofs.files.numbered.Given as goal

abbrev pub invariant-loop-text : goal.invariant-loop-text
invariant-loop-text l = record {
  counted : l.number ≡ l.text-index;
  lines : map as_line l.lines.items
      ++ numbered l.file (l.number + 1) (texts_of (drop l.text-index l.texts))
      ≡ numbered l.file 1 (texts_of l.texts);
}
