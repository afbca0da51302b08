use Rattle.std.proofs.lemmas.Result.{IfOk-weaker}
use Rattle.catalogue.specs.{Declarations.declared_by, Files.as_line}
use Rattle.catalogue.proofs.AnswerLemmas.{replies_made}
use Rattle.catalogue.proofs.messages.message.Goals as goal

pub returns-in-Values-clause-replies : goal.returns-in-Values-clause-replies
returns-in-Values-clause-replies c =
    let found = c.args.found.now in
    IfOk-weaker c.said.result _ _ (λ answer said sound given. replies_made
    c.a_view_has_a_text_by_its_kind.ensures.kind c.a_checked_format_means_no_fault.ensures.fault
    c.escapes_make_no_fault.ensures c.args.escape (as_line found.line) c.args.key.now
    found.template (declared_by found.heading) c.args.objects.now _ answer sound given
    (rw c.in-Values.is at c.in_ok-entries.ensures.picked)
    (rw c.as_slice.ensures.value at said)) c.said.ensures.said
