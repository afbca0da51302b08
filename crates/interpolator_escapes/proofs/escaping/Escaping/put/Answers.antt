use Rattle.interpolator_render.specs.{Texts.view_text, Views.shown_by}
use Rattle.interpolator_escapes.proofs.EscapingLemmas.{through_escaped}
use Rattle.interpolator_escapes.proofs.escaping.Escaping.put.Goals as goal

pub returns-clause-renders : goal.returns-clause-renders
returns-clause-renders g c =
    let last = c.render-rendered.new.out in
    rw (c.or_refused.ensures, c.refused.ensures)
    (through_escaped g.W.TextWrite.written c.args.self.now last
    (view_text (shown_by c.args.view) c.args.wanted c.args.spec.now) c.render-rendered.result
    c.args.wanted c.args.spec.now
    (record { whole = last.whole; front = last.front; lacks = last.lacks; over = last.over })
    last.after c.requires.nothing.0 c.requires.start c.requires.clear c.render-rendered.ensures)
