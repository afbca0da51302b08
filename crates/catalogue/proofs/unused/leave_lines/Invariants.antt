use Rattle.std.proofs.Common.{◌≡◌, drop, filter, map, not}
use Rattle.words.specs.Items.{texts_of}
use Rattle.catalogue.specs.{Files.as_line, Unused.is_used}
use Rattle.catalogue.proofs.unused.leave_lines.Given as goal

abbrev pub invariant-loop-line : goal.invariant-loop-line
invariant-loop-line l =
    filter (λ name. not (is_used name (map as_line (drop l.line-index l.lines))))
    (texts_of l.left.items)
    ≡ filter (λ name. not (is_used name (map as_line l.lines))) (texts_of l.fn.left.items)
