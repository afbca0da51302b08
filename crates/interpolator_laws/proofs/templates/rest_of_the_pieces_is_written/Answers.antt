use Rattle.std.proofs.Common.{◌∙◌, ap, rules, chars}
use Rattle.interpolator_syntax.specs.Places.{outermost}
use Rattle.interpolator_eval.specs.Meaning.Environments.{environment}
use Rattle.interpolator_pieces.specs.Stored.{nodes_of}
use Rattle.interpolator_pieces.proofs.RunLemmas.{rest_whole, rest_outcome}
use Rattle.interpolator_laws.proofs.templates.rest_of_the_pieces_is_written.Goals as goal

pub invariant_of-source : goal.invariant_of-source
invariant_of-source g c =
    let all =
    ap (λ bs. nodes_of bs c.pieces.result.now) c.text.ensures.text ∙ c.pieces.ensures.pieces in
    rw c.pieces_after-rest.ensures (record {
      fits =
          rest_whole c.text.result.now c.pieces.result.now (outermost (chars c.args.template.now))
          all c.args.skipped;
    })

pub returns : goal.returns
returns g c =
    let all =
    ap (λ bs. nodes_of bs c.pieces.result.now) c.text.ensures.text ∙ c.pieces.ensures.pieces in
    let o = rest_outcome c.text.result.now c.pieces.result.now
    (outermost (chars c.args.template.now)) all c.args.skipped g.C.Object.Value.shows
    (environment (g.C.Context.finds c.args.context.now)) _ _ _ _ c.outermost-environment.ensures
    (rw (c.pieces_after-rest.ensures, c.into_writer.ensures) at
    c.write_uncounted-answer.ensures.writes.outcome) in
    record { outcome = search rules }
