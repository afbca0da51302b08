use Rattle.std.proofs.Common.{◌≡◌, ◌++◌, drop, map, string_bytes}
use Rattle.std.specs.List.{concat}
use Rattle.catalogue.specs.{Files.as_line, Lacks.lacking_in_line}
use Rattle.catalogue.proofs.lacks.lacking_in_lines.Given as goal

abbrev pub invariant-loop-line : goal.invariant-loop-line
invariant-loop-line l =
    let all = map as_line l.lines in
    let tells = lacking_in_line all (map string_bytes l.forms) in
    string_bytes l.reported ++ concat (map tells (map as_line (drop l.line-index l.lines)))
    ≡ concat (map tells all)
