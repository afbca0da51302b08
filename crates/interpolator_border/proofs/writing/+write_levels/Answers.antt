use Rattle.std.proofs.Common.{◌≡◌, drop, map, rules, subst}
use Rattle.interpolator_eval.specs.{Escaping.shows_by, Slots.slots_of}
use Rattle.interpolator_border.specs.{Answers.WritesRow, Fields.field_shows, Fields.field_slots}
use Rattle.interpolator_border.proofs.AnswerLemmas.{written_known}
use Rattle.interpolator_border.proofs.LevelLemmas.{known_all, lie_deeper}
use Rattle.interpolator_border.proofs.writing.+write_levels.Goals as goal

pub returns-then-left-eq0 : goal.returns-then-left-eq0
returns-then-left-eq0 g t c =
    let trees = map slots_of c.args.known.slots.now in
    let known : drop c.args.known.left trees
    ≡ drop c.args.known.left (map (field_slots trees) c.args.row.items.now) = search rules in
    written_known _ _ _ _ _ _ _ (map slots_of c.args.known.slots.now) c.write_known.result
    (known_all c.args.known.left _ _ c.if-left-eq0.true known) c.write_known.ensures

pub returns-in-Ok : goal.returns-in-Ok
returns-in-Ok g t c =
    let deep = lie_deeper c.args.known.levels c.args.known.left c.args.row.items.now
    c.if-left-eq0.false c.if-levels-eq0.false in
    subst (λ lie. WritesRow (shows_by g.E.Escaper.shown field_shows) lie c.args.row.fields.now c.args.row.items.now c.args.format.now
    (g.W.TextWrite.written c.args.out.now) (g.W.TextWrite.written c.write_levels.new.out)
    c.write_levels.result) deep (rw c.settled-from.ensures.settled at c.write_levels.ensures)
