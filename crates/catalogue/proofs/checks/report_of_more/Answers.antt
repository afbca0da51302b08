use Rattle.std.proofs.Common.{◌≡◌, ◌∙◌, Bool, ap, arith, false, refl, sym, true}
use Rattle.std.proofs.lemmas.Result.{IfOk-weaker}
use Rattle.catalogue.specs.{Declarations.begin_of, Files.Line, Files.as_line, Reports.reported_at}
use Rattle.catalogue.specs.{FileReports.report_of_more, FileReports.what_goes_on}
use Rattle.folds.specs.Lines.{goes_on}
use Rattle.catalogue.proofs.checks.report_of_more.Goals as goal

-- what is reported of a line that goes on where no message may
more_reported : (is_open : Bool) (line : Line) → is_open ≡ false → goes_on line.text ≡ true
    → report_of_more is_open line ≡ reported_at line (begin_of 0 line.text) what_goes_on
more_reported false line closed goes = rw goes refl
more_reported true line closed goes = absurd (cc)

pub returns-clause-reported : goal.returns-clause-reported
returns-clause-reported c =
    let line = as_line c.args.line.now in
    let goes : goes_on line.text ≡ true =
    grind (arith, c.goes_on.ensures, c.if-not-goes_on.false) in
    IfOk-weaker c.reported_at.result _ _ (λ reported is. is
    ∙ ap (λ place. reported_at line place what_goes_on) c.begin_of.ensures
    ∙ sym (more_reported c.args.is_open line c.if-is_open.false goes)) c.reported_at.ensures.reported
