use Rattle.std.proofs.Common.{◌≡◌, ℕ, Bool, List, ◌∷◌, ◌++◌, append_assoc, map}
use Rattle.std.proofs.lemmas.List.{at_drop_more}
use Rattle.catalogue.specs.{Files.Line, Files.as_line, Forms.as_sought, Keys.with_key}
use Rattle.catalogue.specs.{Lines.key_with, Lines.opens, Sought.as_found, Sought.line_for}
use Rattle.catalogue.specs.{FileReports.report_of_line, FileReports.report_of_lines}
use Rattle.catalogue.specs.declared.files.Line.{Line as LentLine}
use Rattle.catalogue.proofs.FirstLemmas.{found_next}
use Rattle.catalogue.proofs.checks.checked_lines.Goals as goal

-- what was told and what is to be told of the lines that are left, once one more is told of
reported_next : (seen : List (ℕ × List ℕ)) (is_open : Bool) (line : Line) (ls rest : List Line)
    (reported more new all : List ℕ) → ls ≡ line ∷ rest → reported ++ report_of_lines seen is_open ls ≡ all
    → new ≡ reported ++ more → more ≡ report_of_line seen is_open line
    → new ++ report_of_lines (with_key seen line.number (key_with line.text))
    (opens is_open line.text) rest ≡ all
reported_next seen is_open line ls rest reported more new all split so_far pushed one =
    rw (
      pushed,
      one,
      append_assoc reported (report_of_line seen is_open line)
          (report_of_lines (with_key seen line.number (key_with line.text))
          (opens is_open line.text) rest),
    ) (rw split at so_far)

pub loop-line-preserved : goal.loop-line-preserved
loop-line-preserved c =
    let so_far = c.loop-line.invariant in
    let seen = so_far.reported.0 in
    let next = λ (d : LentLine). at_drop_more (map as_line) c.args.lines.now
    c.loop-line.line-index d c.loop-line-test.true in
    record {
      reported = (
        _,
        rw c.in_ok-checked.ensures.key at (c.in_ok-add_key.ensures seen so_far.reported.1),
        rw c.opens-is_open.ensures (reported_next seen c.loop-line.is_open _ _ _ _ _ _ _ (next _)
            so_far.reported.2 (rw c.as_str.ensures.value at c.in_ok-push_str.ensures.bytes)
            (c.in_ok-checked.ensures.reported seen so_far.reported.1)),
      );
      found = rw c.or-found.ensures (found_next as_found (line_for (as_sought c.args.wanted.now))
          _ _ _ _ _ _ (next _) so_far.found c.in_ok-checked.ensures.found);
    }
