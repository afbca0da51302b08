use Rattle.std.proofs.Common.{◌≡◌, map}
use Rattle.std.specs.{Prelude.string_bytes, Str.encode_utf8_all}
use Rattle.report.specs.Lines.{shown_character}
use Rattle.report.proofs.lines.without_controls.Given as goal

abbrev pub invariant-loop-c : goal.invariant-loop-c
invariant-loop-c l = string_bytes l.shown ≡ encode_utf8_all (map shown_character l.yielded)
