use Rattle.std.proofs.Common.{◌≡◌, [], arith, chars, refl, sym}
use Rattle.std.proofs.{lemmas.Grind.common_steps, lemmas.Str.chars-nil}
use Rattle.interpolator_syntax.specs.Places.{at}
use Rattle.interpolator_syntax.proofs.PieceLemmas.{read_alone}
use Rattle.interpolator_eval.proofs.MeaningLemmas.PlainItemLemmas.{bare_here, rest_here}
use Rattle.interpolator_eval.proofs.evaluate.scanned_groups.bare_rest.Goals as goal

pub returns-then-is_empty-clause-bare : goal.returns-then-is_empty-clause-bare
returns-then-is_empty-clause-bare c p =
    let here = at c.args.here in
    let closed = sym c.in_ok-after.ensures in
    let read = read_alone here c.take_name-named.result _ c.take_name-named.ensures.read closed in
    let name : chars c.take_name-named.result.name.now ≡ [] =
    grind (arith, common_steps, chars-nil) in
    bare_here here p _ _ _ read name refl refl closed

pub returns-then-is_empty-clause-rest : goal.returns-then-is_empty-clause-rest
returns-then-is_empty-clause-rest c =
    let closed = sym c.in_ok-after.ensures in
    let read =
    read_alone (at c.args.here) c.take_name-named.result _ c.take_name-named.ensures.read closed in
    rest_here _ _ _ _ read closed
