use Rattle.std.proofs.Common.{◌∙◌, ap, map, sym}
use Rattle.std.proofs.lemmas.Iterator.{YieldsList-from_chars}
use Rattle.std.proofs.{lemmas.Iterator.Consumers.YieldsList-end, lemmas.List.map-id}
use Rattle.std.specs.{Prelude.string_bytes, Str.encode_utf8_all}
use Rattle.report.specs.Lines.{shown_character}
use Rattle.report.proofs.LineLemmas.{controls_step}
use Rattle.report.proofs.lines.without_controls.Goals as goal

pub loop-c-preserved : goal.loop-c-preserved
loop-c-preserved c =
    controls_step (string_bytes c.loop-c.shown) _ c.loop-c.yielded c.in-Some.c
    c.shown_character.result c.loop-c.invariant c.shown_character.ensures
    c.in_ok-push.ensures.bytes

pub returns : goal.returns
returns c =
    let all = YieldsList-end (YieldsList-from_chars c.args.text.now c.utf8.text cc)
    c.loop-c.yielded _ c.loop-c.yielded_by _ _ c.in-None.is c.next.ensures.steps in
    c.loop-c.invariant
    ∙ ap (λ cs. encode_utf8_all (map shown_character cs)) (sym (map-id c.loop-c.yielded) ∙ all.0)
