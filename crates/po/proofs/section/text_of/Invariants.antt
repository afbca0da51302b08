use Rattle.std.proofs.Common.{◌≡◌, ◌++◌, drop, string_bytes}
use Rattle.po.specs.Sections.{text_of}
use Rattle.po.proofs.section.text_of.Given as goal

abbrev pub invariant-loop-one : goal.invariant-loop-one
invariant-loop-one l =
    string_bytes l.text ++ text_of (drop l.one-index l.strings) ≡ text_of l.strings
