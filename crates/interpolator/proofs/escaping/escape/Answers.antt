use Rattle.std.proofs.Common.{◌≡◌, ◌∙◌, length, ap, rules}
use Rattle.std.specs.Str.{chars}
use Rattle.interpolator_render.specs.Writers.{Buffered}
use Rattle.interpolator.proofs.EscapeLemmas.{nothing_appended, all_appended, escaped_plain}
use Rattle.interpolator.proofs.escaping.escape.Goals as goal

pub loop-rest-init : goal.loop-rest-init
loop-rest-init c = (
  c.utf8.text,
  nothing_appended _ _ _ (ap (λ (w : Buffered). w.text) c.from_string-out.ensures)
      c.in_ok-with_capacity.ensures.bytes,
)

pub loop-rest-preserved : goal.loop-rest-preserved
loop-rest-preserved c =
    (c.in_ok-rest.ensures.utf8, c.in_ok-rest.ensures.ok ∙ c.loop-rest.invariant.1)

pub returns-clause-ok : goal.returns-clause-ok
returns-clause-ok c =
    let none : length c.loop-rest.rest.now ≡ 0 = search rules in
    c.into_string.ensures ∙ all_appended c.loop-rest.out.text c.loop-rest.rest.now _ none
    c.loop-rest.invariant.1

pub returns-clause-pieces : goal.returns-clause-pieces
returns-clause-pieces c =
    let none : length c.loop-rest.rest.now ≡ 0 = search rules in
    escaped_plain _ (chars c.args.text.now) (c.into_string.ensures
    ∙ all_appended c.loop-rest.out.text c.loop-rest.rest.now _ none c.loop-rest.invariant.1)
